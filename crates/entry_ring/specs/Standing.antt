-- What a buffer stands for: the entries of a block that are retained (IEC 61850-7-2, BRCB).
use Rattle.std.specs.Prelude.{◌≡◌, ◌≤◌, ℕ, List, [], ◌∷◌, length, drop, map, Option, None, Some, if◌then◌else◌}
use Rattle.bay_model.specs.Model.{Model}
use Rattle.bay_model.specs.Lookups.{block_of}
use Rattle.bay_model.specs.Points.{Point, Past}
use Rattle.bay_model.specs.Parameters.{purges}
use Rattle.bay_model.specs.Entries.{Entry, selected}
use Rattle.bay_model.specs.Retained.{kept_octets, front as front_at}
use Rattle.entry_ring.specs.Held.{Held}
use Rattle.entry_ring.specs.Ringed.{Ringed, after_entry, after_purge}

-- an entry of the model, as it is kept
abbrev pub held : Entry → Held
held e = record { moment = e.moment; step = e.step; kept = kept_octets e }

-- the moment of the newest of entries
abbrev pub newest_moment : List Entry → Option ℕ
newest_moment [] = None
newest_moment (e ∷ []) = Some e.moment
newest_moment (e ∷ f ∷ es) = newest_moment (f ∷ es)

-- the buffer holds the entries of block b above its front, up to the last point, and knows how many there were and the moment of
-- the newest one
pub record Holds (r : Ringed) (c : Model) (b : ℕ) (past : Past) : Type 0 where
  pub capacity : r.capacity ≡ (block_of c b).capacity
  pub newest : r.newest ≡ length (selected c b past)
  pub newest_moment : r.newest_moment ≡ newest_moment (selected c b past)
  pub front : r.front ≡ front_at c b past
  pub entries : r.entries ≡ drop r.front (map held (selected c b past))
  pub within : r.front ≤ r.newest

-- after entries, one after the other
abbrev pub after_all : Ringed → List Entry → Ringed
after_all r [] = r
after_all r (e ∷ es) = after_all (after_entry r (held e)) es

-- after a point that brings entries, and that may be a purge
abbrev pub after_point : Model → ℕ → Point → Past → Ringed → List Entry → Ringed
after_point c b p before r es = if purges c b p.deed before then after_purge (after_all r es) else after_all r es

abbrev pub empty : ℕ → Ringed
empty capacity = record { capacity = capacity; newest = 0; newest_moment = None; front = 0; entries = [] }
