-- How many entries go when one comes.
use Rattle.std.proofs.Common.{◌≡◌, ◌≤◌, ◌<◌, ℕ, suc, ◌+◌, ◌-◌, List, [], ◌∷◌, ◌++◌, length, drop, refl, sym, ap, ◌∙◌, arith, inl, inr, length-append, true}
use Rattle.std.specs.Prelude.{nat_lt, Some}
use Rattle.std.proofs.lemmas.Bool.Decides.{leb_tells}
use Rattle.std.proofs.lemmas.Bool.{lt-ltb}
use Rattle.std.proofs.lemmas.List.{drop-append-le, length-drop, drop_all}
use Rattle.bay_model.specs.Entries.{last_number}
use Rattle.entry_ring.specs.Held.{Held, size, sizes, least_dropped}
use Rattle.entry_ring.specs.Fitting.{least_for}
use Rattle.entry_ring.specs.Ringed.{Ringed, after_entry}

pub least-none : (capacity more : ℕ) (es : List Held) → sizes es + more ≤ capacity → least_for capacity more es ≡ 0
least-none capacity more [] h = refl
least-none capacity more (e ∷ es) h = elim (leb_tells (sizes (e ∷ es) + more) capacity) [ inl t ↦ rw t.0 refl | inr t ↦ absurd (omega (arith, t.1, h)) ]

pub least-more : (capacity more : ℕ) (e : Held) (es : List Held) → capacity < sizes (e ∷ es) + more → least_for capacity more (e ∷ es) ≡ suc (least_for capacity more es)
least-more capacity more e es h = elim (leb_tells (sizes (e ∷ es) + more) capacity) [ inl t ↦ absurd (omega (arith, t.1, h)) | inr t ↦ rw t.0 refl ]

-- the oldest of entries that don't fit goes
pub one_goes : (capacity more : ℕ) (es : List Held) → more ≤ capacity → capacity < sizes es + more → drop (least_for capacity more (drop 1 es)) (drop 1 es) ≡ drop (least_for capacity more es) es
one_goes capacity more [] fits h = absurd (omega (arith, fits, h))
one_goes capacity more (e ∷ es) fits h = rw (least-more capacity more e es h) refl

pub goes_on : (capacity more : ℕ) (es : List Held) → more ≤ capacity → capacity < sizes es + more → length (drop 1 es) < length es
goes_on capacity more [] fits h = absurd (omega (arith, fits, h))
goes_on capacity more (e ∷ es) fits h = omega arith

pub none_left : (capacity more : ℕ) (es : List Held) → sizes es + more ≤ capacity → drop (least_for capacity more es) es ≡ es
none_left capacity more es h = rw (least-none capacity more es h) refl

pub sizes-append : (es : List Held) (e : Held) → sizes (es ++ e ∷ []) ≡ sizes es + size e
sizes-append [] e = omega arith
sizes-append (f ∷ es) e = omega (arith, sizes-append es e)

least-within : (capacity more : ℕ) (es : List Held) → least_for capacity more es ≤ length es
least-within capacity more [] = omega arith
least-within capacity more (e ∷ es) = elim (leb_tells (sizes (e ∷ es) + more) capacity) [ inl t ↦ rw t.0 (omega arith) | inr t ↦ rw t.0 (omega (arith, least-within capacity more es)) ]

-- as many go for one that fits as of all with it
pub least-appended : (capacity : ℕ) (es : List Held) (e : Held) → size e ≤ capacity → least_dropped capacity (es ++ e ∷ []) ≡ least_for capacity (size e) es
least-appended capacity [] e h = elim (leb_tells (size e + 0) capacity) [ inl t ↦ rw t.0 refl | inr t ↦ absurd (omega (arith, t.1, h)) ]
least-appended capacity (f ∷ es) e h = rw (sizes-append (f ∷ es) e, least-appended capacity es e h) refl

-- all go for one that doesn't
pub least-oversized : (capacity : ℕ) (es : List Held) (e : Held) → capacity < size e → least_dropped capacity (es ++ e ∷ []) ≡ length es + 1
least-oversized capacity [] e h = elim (leb_tells (size e + 0) capacity) [ inl t ↦ absurd (omega (arith, t.1, h)) | inr t ↦ rw t.0 refl ]
least-oversized capacity (f ∷ es) e h = elim (leb_tells (sizes (f ∷ es ++ e ∷ [])) capacity) [
  | inl t ↦ absurd (omega (arith, t.1, h, sizes-append es e))
  | inr t ↦ rw t.0 (omega (arith, least-oversized capacity es e h))
]

few : (n : ℕ) → n < last_number → nat_lt n last_number ≡ true
few n h = lt-ltb n last_number h

-- what is left fits with it
pub left-fits : (capacity more : ℕ) (es : List Held) → more ≤ capacity → sizes (drop (least_for capacity more es) es) + more ≤ capacity
left-fits capacity more [] h = omega (arith, h)
left-fits capacity more (e ∷ es) h = elim (leb_tells (sizes (e ∷ es) + more) capacity) [ inl t ↦ rw t.0 t.1 | inr t ↦ rw t.0 (left-fits capacity more es h) ]

-- a buffer after an entry that fits
pub entry-fits : (r : Ringed) (e : Held) (left : List Held) (number : ℕ) → number ≡ suc r.newest → r.newest < last_number → size e ≤ r.capacity → length r.entries ≤ r.newest → r.front ≡ r.newest - length r.entries
    → left ≡ drop (least_for r.capacity (size e) r.entries) r.entries ++ e ∷ []
    → record { capacity = r.capacity; newest = number; newest_moment = Some e.moment; front = number - length left; entries = left } ≡ after_entry r e
entry-fits r e left number next h fits within front is =
    let least = least-appended r.capacity r.entries e fits in
    let bound = least-within r.capacity (size e) r.entries in
    let same : drop (least_dropped r.capacity (r.entries ++ e ∷ [])) (r.entries ++ e ∷ []) ≡ left =
    ap (λ n. drop n (r.entries ++ e ∷ [])) least ∙ (drop-append-le (least_for r.capacity (size e) r.entries) r.entries (e ∷ []) bound ∙ sym is) in
    let count : length left ≡ length r.entries - least_for r.capacity (size e) r.entries + 1 =
    ap length is ∙ (length-append (drop (least_for r.capacity (size e) r.entries) r.entries) (e ∷ []) ∙ omega (arith, length-drop (least_for r.capacity (size e) r.entries) r.entries)) in
    let first : suc r.newest - length left ≡ r.front + least_dropped r.capacity (r.entries ++ e ∷ []) = omega (arith, count, least, front, within, bound) in
    rw (few r.newest h, same, next) (ap (λ f. record { capacity = r.capacity; newest = suc r.newest; newest_moment = Some e.moment; front = f; entries = left }) first)

-- a buffer after an entry that doesn't
pub entry-oversized : (r : Ringed) (e : Held) (number : ℕ) → number ≡ suc r.newest → r.newest < last_number → r.capacity < size e → length r.entries ≤ r.newest → r.front ≡ r.newest - length r.entries
    → record { capacity = r.capacity; newest = number; newest_moment = Some e.moment; front = number - 0; entries = [] } ≡ after_entry r e
entry-oversized r e number next h over within front =
    let least = least-oversized r.capacity r.entries e over in
    let none : drop (least_dropped r.capacity (r.entries ++ e ∷ [])) (r.entries ++ e ∷ []) ≡ [] =
    drop_all (least_dropped r.capacity (r.entries ++ e ∷ [])) (r.entries ++ e ∷ []) (omega (arith, least, length-append r.entries (e ∷ []))) in
    let first : suc r.newest - 0 ≡ r.front + least_dropped r.capacity (r.entries ++ e ∷ []) = omega (arith, least, front, within) in
    rw (few r.newest h, none, next) (ap (λ f. record { capacity = r.capacity; newest = suc r.newest; newest_moment = Some e.moment; front = f; entries = [] }) first)
