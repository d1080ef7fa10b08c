-- A buffer holds what is retained, point by point.
use Rattle.std.proofs.Common.{◌≡◌, ◌≤◌, ℕ, zero, suc, ◌+◌, max, Bool, true, false, List, [], ◌∷◌, ◌++◌, length, drop, map, refl, sym, ap, ◌∙◌, arith, inl, inr, length-append}
use Rattle.std.specs.Prelude.{nat_lt, Some, if◌then◌else◌}
use Rattle.std.proofs.lemmas.Bool.Decides.{leb_tells}
use Rattle.std.proofs.lemmas.List.{drop-append-le, drop-drop, drop_all, map-append, length-map}
use Rattle.bay_model.specs.Model.{Model}
use Rattle.bay_model.specs.Lookups.{block_of}
use Rattle.bay_model.specs.Points.{Point, Past, now}
use Rattle.bay_model.specs.Singles.{arrival}
use Rattle.bay_model.specs.Parameters.{purges}
use Rattle.bay_model.specs.Entries.{Entry, selected, appended, last_number}
use Rattle.bay_model.specs.Retained as retained
use Rattle.bay_model.specs.Retained.{purged, kept_octets}
use Rattle.bay_model.proofs.Again.{selected-again}
use Rattle.bay_model.proofs.FrontLaws.{front_is_least, front_never_falls}
use Rattle.entry_ring.specs.Held.{Held, sizes, least_dropped}
use Rattle.entry_ring.specs.Ringed.{Ringed, fitted, after_entry, after_purge}
use Rattle.entry_ring.specs.Standing.{held, newest_moment, Holds, after_all, after_point, empty}

sizes-held : (es : List Entry) → sizes (map held es) ≡ retained.sizes es
sizes-held [] = refl
sizes-held (e ∷ es) = ap (λ n. retained.size e + n) (sizes-held es)

least-held : (capacity : ℕ) (es : List Entry) → least_dropped capacity (map held es) ≡ retained.least_dropped capacity es
least-held capacity [] = refl
least-held capacity (e ∷ es) = rw (sizes-held es, least-held capacity es) refl

least-none : (capacity : ℕ) (es : List Held) → sizes es ≤ capacity → least_dropped capacity es ≡ 0
least-none capacity [] h = refl
least-none capacity (e ∷ es) h = elim (leb_tells (sizes (e ∷ es)) capacity) [ inl t ↦ rw t.0 refl | inr t ↦ absurd (omega (arith, t.1, h)) ]

-- of entries of which g are gone already, as many have to go as of all, but g at least
least-drop : (capacity g : ℕ) (es : List Held) → g ≤ length es → g + least_dropped capacity (drop g es) ≡ max g (least_dropped capacity es)
least-drop capacity zero es h = omega arith
least-drop capacity (suc g) [] h = absurd (omega (arith, h))
least-drop capacity (suc g) (e ∷ es) h = elim (leb_tells (sizes (e ∷ es)) capacity) [
  | inl t ↦ rw t.0 (omega (arith, least-drop capacity g es (omega (arith, h)), least-none capacity es (omega (arith, t.1))))
  | inr t ↦ rw t.0 (omega (arith, least-drop capacity g es (omega (arith, h))))
]

pub newest-last : (es : List Entry) (e : Entry) → newest_moment (es ++ e ∷ []) ≡ Some e.moment
newest-last [] e = refl
newest-last (d ∷ []) e = refl
newest-last (d ∷ f ∷ es) e = newest-last (f ∷ es) e

-- the same of the entries alone, of which that many were purged
record HoldsAll (r : Ringed) (capacity gone : ℕ) (es : List Entry) : Type 0 where
  is_capacity : r.capacity ≡ capacity
  newest : r.newest ≡ length es
  moment : r.newest_moment ≡ newest_moment es
  front : r.front ≡ max gone (retained.least_dropped capacity es)
  entries : r.entries ≡ drop r.front (map held es)
  within : r.front ≤ r.newest

holds-fitted : (r : Ringed) (capacity gone : ℕ) (es : List Entry) (e : Entry) → HoldsAll r capacity gone es → HoldsAll (fitted r e.moment (r.entries ++ held e ∷ [])) capacity gone (es ++ e ∷ [])
holds-fitted r capacity gone es e h =
    let old : List Held = map held es in
    let all : List Held = old ++ held e ∷ [] in
    let is_all : map held (es ++ e ∷ []) ≡ all = map-append held es (e ∷ []) in
    let count : length all ≡ suc r.newest = length-append old (held e ∷ []) ∙ omega (arith, h.newest, length-map es held) in
    let long : length (es ++ e ∷ []) ≡ suc r.newest = length-append es (e ∷ []) ∙ omega (arith, h.newest) in
    let left : r.entries ++ held e ∷ [] ≡ drop r.front all = ap (λ l. l ++ held e ∷ []) h.entries ∙ sym (drop-append-le r.front old (held e ∷ []) (omega (arith, h.within, h.newest, length-map es held))) in
    let least : least_dropped r.capacity all ≡ retained.least_dropped capacity (es ++ e ∷ []) = ap (λ n. least_dropped n all) h.is_capacity ∙ (ap (least_dropped capacity) (sym is_all) ∙ least-held capacity (es ++ e ∷ [])) in
    let number : r.front + least_dropped r.capacity (r.entries ++ held e ∷ []) ≡ max r.front (least_dropped r.capacity all) =
    ap (λ l. r.front + least_dropped r.capacity l) left ∙ least-drop r.capacity r.front all (omega (arith, count, h.within)) in
    let rises = front_never_falls capacity es e in
    let most = (front_is_least capacity (es ++ e ∷ [])).1 in
    record {
      is_capacity = h.is_capacity;
      newest = sym long;
      moment = sym (newest-last es e);
      front = omega (arith, number, h.front, rises, least);
      entries = ap (λ l. drop (least_dropped r.capacity (r.entries ++ held e ∷ [])) l) left ∙ (drop-drop (least_dropped r.capacity (r.entries ++ held e ∷ [])) r.front all ∙ ap (λ l. drop (r.front + least_dropped r.capacity (r.entries ++ held e ∷ [])) l) (sym is_all));
      within = omega (arith, number, most, long, h.within, least);
    }

-- after one entry more, as far as there are numbers
holds-entry : (r : Ringed) (capacity gone : ℕ) (es : List Entry) (e : Entry) → HoldsAll r capacity gone es
    → HoldsAll (after_entry r (held e)) capacity gone (if nat_lt (length es) last_number then es ++ e ∷ [] else es)
holds-entry r capacity gone es e h = rw (← h.newest) (either (nat_lt r.newest last_number)) where
  either : (t : Bool) → HoldsAll (if t then fitted r e.moment (r.entries ++ held e ∷ []) else r) capacity gone (if t then es ++ e ∷ [] else es)
  either true = holds-fitted r capacity gone es e h
  either false = h

holds-entries : (r : Ringed) (capacity gone : ℕ) (so_far es : List Entry) → HoldsAll r capacity gone so_far → HoldsAll (after_all r es) capacity gone (appended so_far es)
holds-entries r capacity gone so_far [] h = h
holds-entries r capacity gone so_far (e ∷ es) h =
    holds-entries (after_entry r (held e)) capacity gone (if nat_lt (length so_far) last_number then so_far ++ e ∷ [] else so_far) es (holds-entry r capacity gone so_far e h)

holds-purge : (r : Ringed) (capacity gone : ℕ) (es : List Entry) → HoldsAll r capacity gone es → HoldsAll (after_purge r) capacity (length es) es
holds-purge r capacity gone es h = record {
  is_capacity = h.is_capacity;
  newest = h.newest;
  moment = h.moment;
  front = omega (arith, h.newest, (front_is_least capacity es).1);
  entries = sym (drop_all r.newest (map held es) (omega (arith, h.newest, length-map es held)));
  within = omega arith;
}

pub holds-opened : (c : Model) (b : ℕ) → Holds (empty (block_of c b).capacity) c b []
holds-opened c b = record { capacity = refl; newest = refl; newest_moment = refl; front = refl; entries = refl; within = omega arith }

-- after a point which brings these entries to those that were there, and which may be a purge
holds-with : (c : Model) (b : ℕ) (p : Point) (before : Past) (r : Ringed) (so_far es : List Entry) → HoldsAll r (block_of c b).capacity (purged c b before) so_far
    → selected c b (p ∷ before) ≡ appended so_far es → Holds (after_point c b p before r es) c b (p ∷ before)
holds-with c b p before r so_far es h new = either (purges c b p.deed before) refl where
  all : HoldsAll (after_all r es) (block_of c b).capacity (purged c b before) (selected c b (p ∷ before))
  all = rw new (holds-entries r (block_of c b).capacity (purged c b before) so_far es h)

  either : (t : Bool) → purges c b p.deed before ≡ t → Holds (if t then after_purge (after_all r es) else after_all r es) c b (p ∷ before)
  either true is =
      let done = holds-purge (after_all r es) (block_of c b).capacity (purged c b before) (selected c b (p ∷ before)) all in
      record { capacity = done.is_capacity; newest = done.newest; newest_moment = done.moment; front = done.front ∙ rw is refl; entries = done.entries; within = done.within }
  either false is = record { capacity = all.is_capacity; newest = all.newest; newest_moment = all.moment; front = all.front ∙ rw is refl; entries = all.entries; within = all.within }

pub holds-point : (c : Model) (b : ℕ) (p : Point) (before : Past) (r : Ringed) (es : List Entry) → Holds r c b before → selected c b (p ∷ before) ≡ appended (selected c b before) es
    → Holds (after_point c b p before r es) c b (p ∷ before)
holds-point c b p before r es h new = holds-with c b p before r (selected c b before) es (record { is_capacity = h.capacity; newest = h.newest; moment = h.newest_moment; front = h.front; entries = h.entries; within = h.within }) new

-- from the arrival of a point to the point itself, where what came of it brings these entries
pub holds-deed : (c : Model) (b : ℕ) (p : Point) (before : Past) (r : Ringed) (es : List Entry) → Holds r c b (arrival p.step p.moment ∷ before)
    → selected c b (p ∷ before) ≡ appended (selected c b (arrival p.step p.moment ∷ before)) es → Holds (after_point c b p before r es) c b (p ∷ before)
holds-deed c b p before r es h new =
    holds-with c b p before r (selected c b (arrival p.step p.moment ∷ before)) es (record { is_capacity = h.capacity; newest = h.newest; moment = h.newest_moment; front = h.front; entries = h.entries; within = h.within }) new

-- a further arrival at the same moment brings nothing
pub holds-again : (c : Model) (b m n : ℕ) (q : Point) (before : Past) (r : Ringed) → m ≤ now (q ∷ before) → Holds r c b (q ∷ before) → Holds r c b (arrival n m ∷ q ∷ before)
holds-again c b m n q before r same h = holds-point c b (arrival n m) (q ∷ before) r [] h (selected-again c b m n q before same)
