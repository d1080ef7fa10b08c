-- The earlier of two moments.
use Rattle.std.proofs.Common.{ℕ, arith}
use Rattle.std.specs.Prelude.{Option, None, Some}
use Rattle.report_block.specs.Due.{earliest, IsBefore}

pub before-first : (now : ℕ) (x y : Option ℕ) → IsBefore now (earliest x y) → IsBefore now x
before-first now None y h = tt
before-first now (Some m) None h = h
before-first now (Some m) (Some k) h = omega (arith, h)

pub before-second : (now : ℕ) (x y : Option ℕ) → IsBefore now (earliest x y) → IsBefore now y
before-second now None y h = h
before-second now (Some m) None h = tt
before-second now (Some m) (Some k) h = omega (arith, h)
