-- Entries laid out in a circular buffer.
use Rattle.std.proofs.Common.{◌≡◌, ◌≤◌, ◌<◌, ℕ, zero, suc, ◌+◌, ◌-◌, ◌*◌, List, [], ◌∷◌, ◌++◌, length, take, drop, refl, sym, ap, ◌∙◌, arith, inl, inr, length-append}
use Rattle.std.specs.Prelude.{Option, Some, None, slice_get}
use Rattle.std.specs.Option.{option_map}
use Rattle.std.proofs.lemmas.Bool.Decides.{leb_tells}
use Rattle.std.proofs.lemmas.List.{take-append-le, drop-append-le, length-drop, length-take, drop-drop, drop_all, take_all}
use Rattle.entry_ring.specs.declared.room.Place.{Place}
use Rattle.entry_ring.specs.Held.{Held, sizes}
use Rattle.entry_ring.specs.Places.{behind, offset}
use Rattle.entry_ring.specs.Rows.{Laid, end_of, held_in}

pub behind-over : (capacity at len : ℕ) → capacity < at + len → behind capacity at len ≡ at + len - suc capacity
behind-over capacity at len h = elim (leb_tells (suc capacity) (at + len)) [ inl t ↦ rw t.0 refl | inr t ↦ absurd (omega (arith, h, t.1)) ]

pub behind-under : (capacity at len : ℕ) → at + len ≤ capacity → behind capacity at len ≡ at + len
behind-under capacity at len h = elim (leb_tells (suc capacity) (at + len)) [ inl t ↦ absurd (omega (arith, h, t.1)) | inr t ↦ rw t.0 refl ]

pub behind-within : (capacity at len : ℕ) → at ≤ capacity → len ≤ capacity → behind capacity at len ≤ capacity
behind-within capacity at len a l = elim (leb_tells (suc capacity) (at + len)) [
  | inl t ↦ omega (arith, behind-over capacity at len (omega (arith, t.1)), a, l)
  | inr t ↦ omega (arith, behind-under capacity at len (omega (arith, t.1)), a, l)
]

-- two moves are one
pub behind-behind : (capacity at m n : ℕ) → at ≤ capacity → m + n ≤ capacity → behind capacity (behind capacity at m) n ≡ behind capacity at (m + n)
behind-behind capacity at m n a h = elim (leb_tells (suc capacity) (at + m)) [
  | inl t ↦ let one = behind-over capacity at m (omega (arith, t.1)) in
      omega (arith, one, behind-under capacity (behind capacity at m) n (omega (arith, one, a, h)), behind-over capacity at (m + n) (omega (arith, t.1)))
  | inr t ↦ let one = behind-under capacity at m (omega (arith, t.1)) in elim (leb_tells (suc capacity) (at + m + n)) [
    | inl s ↦ omega (arith, one, behind-over capacity (behind capacity at m) n (omega (arith, one, s.1)), behind-over capacity at (m + n) (omega (arith, s.1)))
    | inr s ↦ omega (arith, one, behind-under capacity (behind capacity at m) n (omega (arith, one, s.1)), behind-under capacity at (m + n) (omega (arith, s.1)))
  ]
]

-- how far a place is after is found again
pub offset-behind : (capacity begin o : ℕ) → begin ≤ capacity → o ≤ capacity → offset capacity begin (behind capacity begin o) ≡ o
offset-behind capacity begin o b h = elim (leb_tells (suc capacity) (begin + o)) [
  | inl t ↦ let one = behind-over capacity begin o (omega (arith, t.1)) in
      elim (leb_tells (suc (behind capacity begin o)) begin) [
        | inl s ↦ rw s.0 (omega (arith, one, t.1, b, h))
        | inr s ↦ absurd (omega (arith, one, t.1, s.1, b, h))
      ]
  | inr t ↦ let one = behind-under capacity begin o (omega (arith, t.1)) in
      elim (leb_tells (suc (behind capacity begin o)) begin) [
        | inl s ↦ absurd (omega (arith, one, s.1))
        | inr s ↦ rw s.0 (omega (arith, one))
      ]
]

-- how many octets the entries take
pub laid-sizes : (capacity at : ℕ) (ps : List Place) (octets : List ℕ) → Laid capacity at ps octets → sizes (held_in ps octets) ≡ 24 * length ps + length octets
laid-sizes capacity at [] octets laid = rw laid refl
laid-sizes capacity at (p ∷ ps) octets laid =
    omega (arith, laid-sizes capacity (behind capacity at p.len) ps (drop p.len octets) laid.2, laid.1, length-drop p.len octets, length-take p.len octets)

pub length_held : (ps : List Place) (octets : List ℕ) → length (held_in ps octets) ≡ length ps
length_held [] octets = refl
length_held (p ∷ ps) octets = ap suc (length_held ps (drop p.len octets))

pub end-within : (capacity at : ℕ) (ps : List Place) (octets : List ℕ) → Laid capacity at ps octets → at ≤ capacity → length octets ≤ capacity → end_of capacity at ps ≤ capacity
end-within capacity at [] octets laid a h = a
end-within capacity at (p ∷ ps) octets laid a h =
    end-within capacity (behind capacity at p.len) ps (drop p.len octets) laid.2 (behind-within capacity at p.len a (omega (arith, laid.1, h))) (omega (arith, length-drop p.len octets, h))

pub end-snoc : (capacity at : ℕ) (ps : List Place) (p : Place) → end_of capacity at (ps ++ p ∷ []) ≡ behind capacity (end_of capacity at ps) p.len
end-snoc capacity at [] p = refl
end-snoc capacity at (q ∷ ps) p = end-snoc capacity (behind capacity at q.len) ps p

-- one more after the others
pub laid-snoc : (capacity at : ℕ) (ps : List Place) (octets row : List ℕ) (p : Place) → Laid capacity at ps octets → p.at ≡ end_of capacity at ps → p.len ≡ length row → Laid capacity at (ps ++ p ∷ []) (octets ++ row)
laid-snoc capacity at [] octets row p laid a l = (a, rw (laid, l) (omega arith), rw (laid, l) (drop_all (length row) row (omega arith)))
laid-snoc capacity at (q ∷ ps) octets row p laid a l = (
  laid.0,
  omega (arith, laid.1, length-append octets row),
  rw (drop-append-le q.len octets row laid.1) (laid-snoc capacity (behind capacity at q.len) ps (drop q.len octets) row p laid.2 a l),
)

pub held-snoc : (capacity at : ℕ) (ps : List Place) (octets row : List ℕ) (p : Place) → Laid capacity at ps octets → p.len ≡ length row
    → held_in (ps ++ p ∷ []) (octets ++ row) ≡ held_in ps octets ++ record { moment = p.moment; step = p.step; kept = row } ∷ []
held-snoc capacity at [] octets row p laid l = rw (laid, l) (ap (λ k. record { moment = p.moment; step = p.step; kept = k } ∷ []) (take_all (length row) row (omega arith)))
held-snoc capacity at (q ∷ ps) octets row p laid l =
    rw (take-append-le q.len octets row laid.1, drop-append-le q.len octets row laid.1, held-snoc capacity (behind capacity at q.len) ps (drop q.len octets) row p laid.2 l) refl

-- where the octets of an entry are
pub record Found (capacity at : ℕ) (octets : List ℕ) (p : Place) (e : Option Held) : Type 0 where
  pub from : ℕ
  pub within : from + p.len ≤ length octets
  pub place : p.at ≡ behind capacity at from
  pub entry : e ≡ Some (record { moment = p.moment; step = p.step; kept = take p.len (drop from octets) })

pub found : (capacity at : ℕ) (ps : List Place) (octets : List ℕ) (i : ℕ) (p : Place) → Laid capacity at ps octets → at ≤ capacity → length octets ≤ capacity → slice_get ps i ≡ Some p
    → Found capacity at octets p (slice_get (held_in ps octets) i)
found capacity at [] octets i p laid a h is = cc
found capacity at (q ∷ ps) octets zero p laid a h is =
    let same : q ≡ p = cc in
    let here : behind capacity at 0 ≡ at = behind-under capacity at 0 (omega (arith, a)) ∙ omega arith in
    rw (← same) (record { from = 0; within = omega (arith, laid.1); place = laid.0 ∙ sym here; entry = refl })
found capacity at (q ∷ ps) octets (suc i) p laid a h is =
    let rest = found capacity (behind capacity at q.len) ps (drop q.len octets) i p laid.2 (behind-within capacity at q.len a (omega (arith, laid.1, h))) (omega (arith, length-drop q.len octets, h)) is in
    let count = length-drop q.len octets in
    record {
      from = q.len + rest.from;
      within = omega (arith, rest.within, count, laid.1);
      place = rest.place ∙ behind-behind capacity at q.len rest.from a (omega (arith, rest.within, count, laid.1, h));
      entry = rest.entry ∙ ap (λ l. Some (record { moment = p.moment; step = p.step; kept = take p.len l })) (drop-drop rest.from q.len octets ∙ ap (λ n. drop n octets) (omega arith));
    }

pub found-none : (ps : List Place) (octets : List ℕ) (i : ℕ) → slice_get ps i ≡ None → slice_get (held_in ps octets) i ≡ None
found-none [] octets i is = refl
found-none (p ∷ ps) octets zero is = cc
found-none (p ∷ ps) octets (suc i) is = found-none ps (drop p.len octets) i is

-- an entry came to be at the step that its place names
pub steps_held : (ps : List Place) (octets : List ℕ) (i : ℕ) → option_map (λ (p : Place). p.step) (slice_get ps i) ≡ option_map (λ (e : Held). e.step) (slice_get (held_in ps octets) i)
steps_held [] octets i = refl
steps_held (p ∷ ps) octets zero = refl
steps_held (p ∷ ps) octets (suc i) = steps_held ps (drop p.len octets) i
