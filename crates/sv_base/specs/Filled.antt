-- A list in memory that was allocated before.
use Rattle.std.specs.Prelude.{ℕ, List}

-- what is there, and how many fit
pub record Filled (A : Type 0) : Type 0 where
  pub items : List A
  pub room : ℕ
