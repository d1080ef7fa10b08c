-- The members that are there, by where their octets lie.
use Rattle.std.proofs.Common.{◌≡◌, ◌≤◌, ◌<◌, ℕ, zero, suc, ◌+◌, ◌*◌, Bool, true, false, List, [], ◌∷◌, ◌++◌, length, refl, sym, ap, ap₂, ◌∙◌, arith, inl, inr, Option, None, Some, is_some, slice_index_or, slice_set, length-append, append-nil, append_assoc, replicate}
use Rattle.std.specs.Prelude.{if◌then◌else◌, nat_lt, ◌==◌, ◌||◌}
use Rattle.std.specs.List.{slice_range}
use Rattle.std.proofs.lemmas.Bool.Decides.{leb_tells, eqb_tells}
use Rattle.bay_rooms.proofs.RoomLaws.{range-before, range-behind, length-range}
use Rattle.window_core.specs.declared.slots.Span.{Span}
use Rattle.window_core.specs.Pieces.{Piece, insert, octets_of, is_there}
use Rattle.window_core.specs.Slots.{octets_at, listed, total, AreSpans}
use Rattle.list_laws.proofs.Places.{same-number}

abbrev pub no_span : Option Span
no_span = None

-- ---- none

pub none-listed : (i : ℕ) (ss : List (Option Span)) (octets : List ℕ) → ((j : ℕ) → j < length ss → slice_index_or ss j None ≡ None) → listed i ss octets ≡ []
none-listed i [] octets h = refl
none-listed i (None ∷ ss) octets h = none-listed (suc i) ss octets (λ j below. h (suc j) (omega (arith, below)))
none-listed i (Some s ∷ ss) octets h = absurd (some (h 0 (omega arith)))
  where
    some : Some s ≡ None → ⊥
    some e = cc

pub none-total : (ss : List (Option Span)) → ((j : ℕ) → j < length ss → slice_index_or ss j None ≡ None) → total ss ≡ 0
none-total [] h = refl
none-total (None ∷ ss) h = none-total ss (λ j below. h (suc j) (omega (arith, below)))
none-total (Some s ∷ ss) h = absurd (some (h 0 (omega arith)))
  where
    some : Some s ≡ None → ⊥
    some e = cc

pub none-spans : (n : ℕ) (ss : List (Option Span)) → ((j : ℕ) → j < length ss → slice_index_or ss j None ≡ None) → AreSpans n ss
none-spans n [] h = tt
none-spans n (None ∷ ss) h = none-spans n ss (λ j below. h (suc j) (omega (arith, below)))
none-spans n (Some s ∷ ss) h = absurd (some (h 0 (omega arith)))
  where
    some : Some s ≡ None → ⊥
    some e = cc

-- ---- which are there

above : (n i : ℕ) (ss : List (Option Span)) (octets : List ℕ) → n < i → is_there n (listed i ss octets) ≡ false
above n i [] octets h = refl
above n i (None ∷ ss) octets h = above n (suc i) ss octets (omega (arith, h))
above n i (Some s ∷ ss) octets h = elim (eqb_tells n i) [ inl t ↦ absurd (omega (arith, t.1, h)) | inr t ↦ ap (λ x. x || is_there n (listed (suc i) ss octets)) t.0 ∙ above n (suc i) ss octets (omega (arith, h)) ]

later-number : (n i : ℕ) → i < n → (n == i) ≡ false
later-number n i h = elim (eqb_tells n i) [ inl t ↦ absurd (omega (arith, t.1, h)) | inr t ↦ t.0 ]

pub there-at : (i j : ℕ) (ss : List (Option Span)) (octets : List ℕ) → j < length ss → is_there (i + j) (listed i ss octets) ≡ is_some (slice_index_or ss j None)
there-at i j [] octets below = absurd (omega (arith, below))
there-at i zero (None ∷ ss) octets below = ap (λ n. is_there n (listed (suc i) ss octets)) (omega arith) ∙ above i (suc i) ss octets (omega arith)
there-at i zero (Some s ∷ ss) octets below = ap (λ x. x || is_there (i + 0) (listed (suc i) ss octets)) (ap (λ n. n == i) (omega arith) ∙ same-number i)
there-at i (suc j) (None ∷ ss) octets below = ap (λ n. is_there n (listed (suc i) ss octets)) (omega arith) ∙ there-at (suc i) j ss octets (omega (arith, below))
there-at i (suc j) (Some s ∷ ss) octets below = ap (λ x. x || is_there (i + suc j) (listed (suc i) ss octets)) (later-number (i + suc j) i (omega arith))
    ∙ (ap (λ n. is_there n (listed (suc i) ss octets)) (omega arith) ∙ there-at (suc i) j ss octets (omega (arith, below)))

-- ---- one more

more-listed : (i : ℕ) (ss : List (Option Span)) (octets more : List ℕ) → AreSpans (length octets) ss → listed i ss (octets ++ more) ≡ listed i ss octets
more-listed i [] octets more are = refl
more-listed i (None ∷ ss) octets more are = more-listed (suc i) ss octets more are
more-listed i (Some s ∷ ss) octets more are = ap₂ (λ o l. record { number = i; octets = o } ∷ l) (range-before octets more s.at (s.at + s.len) (omega arith) are.0) (more-listed (suc i) ss octets more are.2)

in-front : (p : Piece) (i : ℕ) (ss : List (Option Span)) (octets : List ℕ) → p.number < i → insert p (listed i ss octets) ≡ p ∷ listed i ss octets
in-front p i [] octets h = refl
in-front p i (None ∷ ss) octets h = in-front p (suc i) ss octets (omega (arith, h))
in-front p i (Some s ∷ ss) octets h = ap (λ t. if t then p ∷ record { number = i; octets = octets_at octets s } ∷ listed (suc i) ss octets else record { number = i; octets = octets_at octets s } ∷ insert p (listed (suc i) ss octets)) (before p.number i h)
  where
    before : (n i : ℕ) → n < i → nat_lt n i ≡ true
    before n i h = elim (leb_tells (suc n) i) [ inl t ↦ t.0 | inr t ↦ absurd (omega (arith, t.1, h)) ]

behind : (n i : ℕ) → i < n → nat_lt n i ≡ false
behind n i h = elim (leb_tells (suc n) i) [ inl t ↦ absurd (omega (arith, t.1, h)) | inr t ↦ t.0 ]

abbrev pub span_behind : List ℕ → List ℕ → Span
span_behind octets more = record { at = length octets; len = length more }

span-octets : (octets more : List ℕ) → octets_at (octets ++ more) (span_behind octets more) ≡ more
span-octets octets more = ap (λ n. slice_range (octets ++ more) (length octets) n) (sym (length-append octets more)) ∙ range-behind octets more

pub put-listed : (i j : ℕ) (ss : List (Option Span)) (octets more : List ℕ) → j < length ss → slice_index_or ss j None ≡ None → AreSpans (length octets) ss
    → listed i (slice_set ss j (Some (span_behind octets more))) (octets ++ more) ≡ insert (record { number = i + j; octets = more }) (listed i ss octets)
put-listed i j [] octets more below none are = absurd (omega (arith, below))
put-listed i zero (Some s ∷ ss) octets more below none are = cc
put-listed i zero (None ∷ ss) octets more below none are = ap₂ (λ o l. record { number = i; octets = o } ∷ l) (span-octets octets more) (more-listed (suc i) ss octets more are)
    ∙ (ap (λ n. record { number = n; octets = more } ∷ listed (suc i) ss octets) (omega arith) ∙ sym (in-front (record { number = i + 0; octets = more }) (suc i) ss octets (omega arith)))
put-listed i (suc j) (None ∷ ss) octets more below none are = put-listed (suc i) j ss octets more (omega (arith, below)) none are
    ∙ ap (λ n. insert (record { number = n; octets = more }) (listed (suc i) ss octets)) (omega arith)
put-listed i (suc j) (Some s ∷ ss) octets more below none are = ap₂ (λ o l. record { number = i; octets = o } ∷ l) (range-before octets more s.at (s.at + s.len) (omega arith) are.0)
    (put-listed (suc i) j ss octets more (omega (arith, below)) none are.2 ∙ ap (λ n. insert (record { number = n; octets = more }) (listed (suc i) ss octets)) (omega arith))
    ∙ ap (λ t. if t then record { number = i + suc j; octets = more } ∷ record { number = i; octets = octets_at octets s } ∷ listed (suc i) ss octets else record { number = i; octets = octets_at octets s } ∷ insert (record { number = i + suc j; octets = more }) (listed (suc i) ss octets)) (sym (behind (i + suc j) i (omega arith)))

pub put-total : (j : ℕ) (ss : List (Option Span)) (s : Span) → j < length ss → slice_index_or ss j None ≡ None → total (slice_set ss j (Some s)) ≡ s.len + total ss
put-total j [] s below none = absurd (omega (arith, below))
put-total zero (Some t ∷ ss) s below none = cc
put-total zero (None ∷ ss) s below none = refl
put-total (suc j) (None ∷ ss) s below none = put-total j ss s (omega (arith, below)) none
put-total (suc j) (Some t ∷ ss) s below none = omega (arith, put-total j ss s (omega (arith, below)) none)

pub put-spans : (n m j : ℕ) (ss : List (Option Span)) (s : Span) → j < length ss → n ≤ m → s.at + s.len ≤ m → s.len ≤ 504 → AreSpans n ss → AreSpans m (slice_set ss j (Some s))
put-spans n m j [] s below h i k are = absurd (omega (arith, below))
put-spans n m zero (None ∷ ss) s below h i k are = (i, k, wider ss are)
  where
    wider : (ss : List (Option Span)) → AreSpans n ss → AreSpans m ss
    wider [] are = tt
    wider (None ∷ ss) are = wider ss are
    wider (Some t ∷ ss) are = (omega (arith, are.0, h), are.1, wider ss are.2)
put-spans n m zero (Some t ∷ ss) s below h i k are = (i, k, wider ss are.2)
  where
    wider : (ss : List (Option Span)) → AreSpans n ss → AreSpans m ss
    wider [] are = tt
    wider (None ∷ ss) are = wider ss are
    wider (Some t ∷ ss) are = (omega (arith, are.0, h), are.1, wider ss are.2)
put-spans n m (suc j) (None ∷ ss) s below h i k are = put-spans n m j ss s (omega (arith, below)) h i k are
put-spans n m (suc j) (Some t ∷ ss) s below h i k are = (omega (arith, are.0, h), are.1, put-spans n m j ss s (omega (arith, below)) h i k are.2)

-- there is capacity for one that isn't there
pub room-total : (n : ℕ) (ss : List (Option Span)) → AreSpans n ss → total ss ≤ 504 * length ss
room-total n [] are = omega arith
room-total n (None ∷ ss) are = omega (arith, room-total n ss are)
room-total n (Some s ∷ ss) are = omega (arith, room-total n ss are.2, are.1)

pub room-left : (n j : ℕ) (ss : List (Option Span)) → j < length ss → slice_index_or ss j None ≡ None → AreSpans n ss → total ss + 504 ≤ 504 * length ss
room-left n j [] below none are = absurd (omega (arith, below))
room-left n zero (Some s ∷ ss) below none are = cc
room-left n zero (None ∷ ss) below none are = omega (arith, room-total n ss are)
room-left n (suc j) (None ∷ ss) below none are = omega (arith, room-left n j ss (omega (arith, below)) none are)
room-left n (suc j) (Some s ∷ ss) below none are = omega (arith, room-left n j ss (omega (arith, below)) none are.2, are.1)

-- the octets don't depend on the numbers
pub octets-anyhow : (i k : ℕ) (ss : List (Option Span)) (octets : List ℕ) → octets_of (listed i ss octets) ≡ octets_of (listed k ss octets)
octets-anyhow i k [] octets = refl
octets-anyhow i k (None ∷ ss) octets = octets-anyhow (suc i) (suc k) ss octets
octets-anyhow i k (Some s ∷ ss) octets = ap (λ l. octets_at octets s ++ l) (octets-anyhow (suc i) (suc k) ss octets)

append-group : (xs ys zs : List ℕ) → xs ++ (ys ++ zs) ≡ (xs ++ ys) ++ zs
append-group xs ys zs = sym (append_assoc xs ys zs)

pub pour-more : (s : Option Span) (rest : List (Option Span)) (octets out : List ℕ) → out ++ octets_of (listed 1 (s ∷ rest) octets) ≡ (out ++ octets_of (listed 1 (s ∷ []) octets)) ++ octets_of (listed 1 rest octets)
pour-more None rest octets out = ap (λ l. out ++ l) (octets-anyhow 2 1 rest octets) ∙ ap (λ l. l ++ octets_of (listed 1 rest octets)) (sym (append-nil out))
pour-more (Some s) rest octets out = ap (λ l. out ++ (octets_at octets s ++ l)) (octets-anyhow 2 1 rest octets)
    ∙ (append-group out (octets_at octets s) (octets_of (listed 1 rest octets)) ∙ ap (λ l. (out ++ l) ++ octets_of (listed 1 rest octets)) (sym (append-nil (octets_at octets s))))

pub spans-first : (n : ℕ) (s : Option Span) (ss : List (Option Span)) → AreSpans n (s ∷ ss) → AreSpans n (s ∷ []) × AreSpans n ss
spans-first n None ss are = (tt, are)
spans-first n (Some s) ss are = ((are.0, are.1, tt), are.2)

pub total-first : (s : Option Span) (ss : List (Option Span)) → total (s ∷ ss) ≡ total (s ∷ []) + total ss
total-first None ss = omega arith
total-first (Some s) ss = omega arith

-- n octets are poured
pub poured-length : (n : ℕ) (s : Option Span) (octets : List ℕ) → AreSpans (length octets) (s ∷ []) → length (octets_of (listed 1 (s ∷ []) octets)) ≡ total (s ∷ [])
poured-length n None octets are = refl
poured-length n (Some s) octets are = omega (arith, length-append (octets_at octets s) [], length-range octets s.at (s.at + s.len) (omega arith) are.0)

pub free-of : (b : Bool) (o : Option Span) → is_some o ≡ b → b ≡ false → o ≡ None
free-of b None h i = refl
free-of b (Some s) h i = cc

pub replicate-none : (n j : ℕ) → slice_index_or (replicate n no_span) j None ≡ None
replicate-none zero j = refl
replicate-none (suc n) zero = refl
replicate-none (suc n) (suc j) = replicate-none n j
