-- What contracts see of a source, a sink and a dialled link in memory.
use Rattle.std.specs.Prelude.{ℕ, List, Bool}

pub record Reading : Type 0 where
  pub left : List ℕ  -- what reads will give
  pub fails : List ℕ  -- the numbers of the reads that fail
  pub calls : ℕ  -- how many reads there were
  pub faults : ℕ  -- how many of them failed

pub record Writing : Type 0 where
  pub taken : List ℕ  -- what was written
  pub fails : List ℕ  -- the numbers of the writes that fail
  pub calls : ℕ  -- how many writes there were
  pub faults : ℕ  -- how many of them failed
  pub wants : ℕ  -- how many of them found no memory

pub record Dialling : Type 0 where
  pub streams : List (List ℕ)  -- what the connections to come will give, the next one first
  pub dials : List ℕ  -- the numbers of the dials that fail
  pub calls : ℕ  -- how many dials there were
  pub faults : ℕ  -- how many of them failed
  pub reached : Bool  -- there was a connection
  pub reading : Reading
  pub writing : Writing
