-- Entries as a buffer holds them, and how many octets they take (IEC 61850-7-2, the buffer of a BRCB; the sizes are this
-- profile's own).
use Rattle.std.specs.Prelude.{ℕ, suc, ◌+◌, List, [], ◌∷◌, length, nat_le, if◌then◌else◌}

-- the time of an entry, the number of the step at which it came to be, and its octets
pub record Held : Type 0 where
  pub moment : ℕ
  pub step : ℕ
  pub kept : List ℕ

abbrev pub size : Held → ℕ
size e = 24 + length e.kept

abbrev pub sizes : List Held → ℕ
sizes [] = 0
sizes (e ∷ es) = size e + sizes es

-- the least number of oldest entries without which the others fit the capacity
abbrev pub least_dropped : ℕ → List Held → ℕ
least_dropped capacity [] = 0
least_dropped capacity (e ∷ es) = if nat_le (sizes (e ∷ es)) capacity then 0 else suc (least_dropped capacity es)

-- entries within a capacity
pub record Roomed : Type 0 where
  pub capacity : ℕ
  pub entries : List Held
