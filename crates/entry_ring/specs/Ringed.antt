-- A buffer, as an entry comes and as it is purged (IEC 61850-7-2, the buffer of a BRCB and PurgeBuf).
use Rattle.std.specs.Prelude.{ℕ, suc, ◌+◌, ◌-◌, List, [], ◌∷◌, ◌++◌, drop, nat_lt, nat_le, ◌&&◌, slice_get, Option, None, Some, if◌then◌else◌}
use Rattle.bay_model.specs.Entries.{last_number}
use Rattle.entry_ring.specs.Held.{Held, least_dropped}

-- the capacity in octets, the number of the newest entry and its moment, retained or not, the front, and the entries above it,
-- the oldest first
pub record Ringed : Type 0 where
  pub capacity : ℕ
  pub newest : ℕ
  pub newest_moment : Option ℕ
  pub front : ℕ
  pub entries : List Held

-- of the entries with one more at this moment the oldest go, as many as have to
abbrev pub fitted : Ringed → ℕ → List Held → Ringed
fitted r moment es = record { capacity = r.capacity; newest = suc r.newest; newest_moment = Some moment; front = r.front + least_dropped r.capacity es; entries = drop (least_dropped r.capacity es) es }

abbrev pub after_entry : Ringed → Held → Ringed
after_entry r e = if nat_lt r.newest last_number then fitted r e.moment (r.entries ++ e ∷ []) else r

abbrev pub after_purge : Ringed → Ringed
after_purge r = record { capacity = r.capacity; newest = r.newest; newest_moment = r.newest_moment; front = r.newest; entries = [] }

-- the entry of a number, where it is retained
abbrev pub entry_at : Ringed → ℕ → Option Held
entry_at r n = if nat_lt r.front n && nat_le n r.newest then slice_get r.entries (n - r.front - 1) else None
