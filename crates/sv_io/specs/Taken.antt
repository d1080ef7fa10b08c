-- How much a call takes from a source.
use Rattle.std.specs.Prelude.{◌≤◌, ℕ, length, List, Option}
use Rattle.std.specs.Io.KnownBytes.{Consumes}

-- at most n octets were taken from a source
abbrev pub TakesAtMost : ℕ → Option (List ℕ) → Option (List ℕ) → Type 0
TakesAtMost most left now = (octets : List ℕ) × (length octets ≤ most) × Consumes left now octets
