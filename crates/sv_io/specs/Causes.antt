-- When a call may answer that it failed, and what a failed write leaves.
use Rattle.std.specs.Prelude.{ℕ, ◌+◌, ◌-◌, ◌^◌, ◌≤◌, min, List, length, take, Option, Result, OnErr}
use Rattle.std.specs.Io.KnownBytes.{Appends}

-- one more, up to the last value of a counter, at which it stays
abbrev pub counted : ℕ → ℕ
counted n = min (n + 1) (2 ^ 64 - 1)

-- a count rose: it is greater than before, or stands at its last value
abbrev pub Rose : ℕ → ℕ → Type 0
Rose before now = counted before ≤ now

-- the count of faults doesn't fall, and a failure is answered only where it rose
pub record HasCause {T E : Type 0} (before now : ℕ) (result : Result T E) : Type 0 where
  pub later : before ≤ now
  pub failed : OnErr result (Rose before now)

-- the octets taken grew by a front of the piece
abbrev pub GrowsByFront : Option (List ℕ) → Option (List ℕ) → List ℕ → Type 0
GrowsByFront old new piece = (n : ℕ) × (n ≤ length piece) × Appends old new (take n piece)
