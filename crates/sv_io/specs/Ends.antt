-- One end of a link, as the other end leaves it.
use Rattle.std.specs.Prelude.{ℕ, List, Option, None}

pub record End : Type 0 where
  pub octets : Option (List ℕ)  -- what is left of it, or what it has taken, where they are told
  pub faults : ℕ  -- how many of its calls failed

abbrev pub no_end : End
no_end = record { octets = None; faults = 0 }
