-- What the writer of Data asks of a value, and what makes a value one that can be read again.
use Rattle.std.specs.Prelude.{ℕ, ◌-◌, ◌*◌, ◌^◌, ◌<◌, ◌≤◌, length, slice_index}
use Rattle.ber_grammar.specs.Content.{IsVisible}
use Rattle.ber_write.specs.Minimal.{IsWord}
use Rattle.sv_base.specs.Tree.{Plain, Seen, Row, plain, structure, none, more, truth, int, uint, bits, time, stamp, text, octets, other}
use Rattle.sv_base.specs.Seen.{seen_of}
use Rattle.sv_base.specs.Data.{data_row}
use Rattle.sv_base.specs.declared.value.Value.{Value}

-- A content has at most 4294967295 octets, of which a bit string's first isn't one of its bits. A fraction of a second has
-- three octets.
abbrev pub FitsPlain : Plain → Type 0
FitsPlain (truth b) = Unit {0}
FitsPlain (int z) = Unit {0}
FitsPlain (uint n) = Unit {0}
FitsPlain (bits bs) = length bs ≤ 8 * (2 ^ 32 - 2)
FitsPlain (time secs frac quality) = frac < 2 ^ 24
FitsPlain (stamp ms days) = Unit {0}
FitsPlain (text t) = length t < 2 ^ 32
FitsPlain (octets o) = length o < 2 ^ 32
FitsPlain other = Unit {0}

abbrev mutual
  pub FitsSeen : Seen → Type 0
  FitsSeen (plain p) = FitsPlain p
  FitsSeen (structure r) = (length (data_row r) < 2 ^ 32) × FitsRow r

  pub FitsRow : Row → Type 0
  FitsRow none = Unit {0}
  FitsRow (more s r) = FitsSeen s × FitsRow r

abbrev pub Fits : Value → Type 0
Fits v = FitsSeen (seen_of v)

-- Numbers are those of the types, and the octets of a text are visible.
abbrev pub IsOfTypes : Plain → Type 0
IsOfTypes (truth b) = Unit {0}
IsOfTypes (int z) = IsWord z
IsOfTypes (uint n) = n < 2 ^ 64
IsOfTypes (bits bs) = Unit {0}
IsOfTypes (time secs frac quality) = (secs < 2 ^ 32) × (quality < 2 ^ 8)
IsOfTypes (stamp ms days) = (ms < 2 ^ 32) × (days < 2 ^ 16)
IsOfTypes (text t) = (k : ℕ) → k < length t → IsVisible (slice_index t k)
IsOfTypes (octets o) = Unit {0}
IsOfTypes other = Unit {0}

abbrev mutual
  pub SeenIsOfTypes : Seen → Type 0
  SeenIsOfTypes (plain p) = IsOfTypes p
  SeenIsOfTypes (structure r) = RowIsOfTypes r

  pub RowIsOfTypes : Row → Type 0
  RowIsOfTypes none = Unit {0}
  RowIsOfTypes (more s r) = SeenIsOfTypes s × RowIsOfTypes r

-- the fraction of a second is one of three octets
abbrev pub IsFraction : Plain → Type 0
IsFraction (truth b) = Unit {0}
IsFraction (int z) = Unit {0}
IsFraction (uint n) = Unit {0}
IsFraction (bits bs) = Unit {0}
IsFraction (time secs frac quality) = frac < 2 ^ 24
IsFraction (stamp ms days) = Unit {0}
IsFraction (text t) = Unit {0}
IsFraction (octets o) = Unit {0}
IsFraction other = Unit {0}

abbrev mutual
  pub SeenHasFractions : Seen → Type 0
  SeenHasFractions (plain p) = IsFraction p
  SeenHasFractions (structure r) = RowHasFractions r

  pub RowHasFractions : Row → Type 0
  RowHasFractions none = Unit {0}
  RowHasFractions (more s r) = SeenHasFractions s × RowHasFractions r
