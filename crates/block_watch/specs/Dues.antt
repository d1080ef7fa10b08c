-- The moments at which the blocks of a bay have something due, in milliseconds since 1970, where they have (IEC 61850-7-2, BRCB
-- attributes BufTm and IntgPd).
use Rattle.std.specs.Prelude.{ℕ, List, Option}
use Rattle.std.specs.List.{All}
use Rattle.report_block.specs.Due.{IsBefore}

-- a moment lies before each of them
abbrev pub AreBefore : ℕ → List (Option ℕ) → Type 0
AreBefore now dues = All (IsBefore now) dues

-- none of them lies before the first
abbrev pub AreFrom : Option ℕ → List (Option ℕ) → Type 0
AreFrom first dues = (now : ℕ) → IsBefore now first → AreBefore now dues
