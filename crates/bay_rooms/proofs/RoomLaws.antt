-- Octets that are cut into members, and one more member after them.
use Rattle.std.proofs.Common.{◌≡◌, refl, ap, ap₂, sym, ◌∙◌, ◌≤◌, ◌<◌, ℕ, zero, suc, ◌+◌, ◌-◌, List, [], ◌∷◌, ◌++◌, length, take, drop, arith, length-append, subst, slice_index_or}
use Rattle.std.specs.List.{concat, slice_range}
use Rattle.std.proofs.lemmas.List.{take-append-le, drop-append-le, length-take, length-drop}
use Rattle.std.proofs.Math.Seq.{drop-append_seam, take-length}
use Rattle.bay_rooms.specs.Rooms.{cut_at, IsCut, begins}

pub length_of_cut : (from : ℕ) (ends octets : List ℕ) → length (cut_at from ends octets) ≡ length ends
length_of_cut from [] octets = refl
length_of_cut from (end ∷ ends) octets = ap suc (length_of_cut end ends octets)

pub length-range : (octets : List ℕ) (from end : ℕ) → from ≤ end → end ≤ length octets → length (slice_range octets from end) ≡ end - from
length-range octets from end i j = omega (arith, length-take (end - from) (drop from octets), length-drop from octets, i, j)

-- the members come to all octets
pub cut_reaches : (from : ℕ) (ends octets : List ℕ) → IsCut from ends octets → from + length (concat (cut_at from ends octets)) ≡ length octets
cut_reaches from [] octets cut = omega (arith, cut)
cut_reaches from (end ∷ ends) octets cut =
    let rest = cut_reaches end ends octets cut.1 in
    let one = length-range octets from end cut.0 (omega (arith, rest)) in
    omega (arith, rest, one, cut.0, length-append (slice_range octets from end) (concat (cut_at end ends octets)))

pub range-before : (octets o : List ℕ) (from end : ℕ) → from ≤ end → end ≤ length octets → slice_range (octets ++ o) from end ≡ slice_range octets from end
range-before octets o from end i j = ap (λ l. take (end - from) l) (drop-append-le from octets o (omega (arith, i, j)))
    ∙ take-append-le (end - from) (drop from octets) o (omega (arith, length-drop from octets, i, j))

pub range-behind : (octets o : List ℕ) → slice_range (octets ++ o) (length octets) (length (octets ++ o)) ≡ o
range-behind octets o = ap (λ l. take (length (octets ++ o) - length octets) l) (drop-append_seam octets o)
    ∙ (ap (λ n. take n o) (omega (arith, length-append octets o)) ∙ take-length o)

-- a member after the others
pub cut_and_more : (from : ℕ) (ends octets o : List ℕ) → IsCut from ends octets
    → cut_at from (ends ++ length (octets ++ o) ∷ []) (octets ++ o) ≡ cut_at from ends octets ++ o ∷ []
cut_and_more from [] octets o cut = ap (λ l. l ∷ []) (subst (λ n. slice_range (octets ++ o) n (length (octets ++ o)) ≡ o) (sym cut) (range-behind octets o))
cut_and_more from (end ∷ ends) octets o cut = ap₂ (λ a l. a ∷ l) (range-before octets o from end cut.0 (omega (arith, cut_reaches end ends octets cut.1))) (cut_and_more end ends octets o cut.1)

pub cut_stays : (from : ℕ) (ends octets o : List ℕ) → IsCut from ends octets → IsCut from (ends ++ length (octets ++ o) ∷ []) (octets ++ o)
cut_stays from [] octets o cut = (omega (arith, cut, length-append octets o), refl)
cut_stays from (end ∷ ends) octets o cut = (cut.0, cut_stays end ends octets o cut.1)

pub cut_gives : (from : ℕ) (ends octets : List ℕ) (i : ℕ) → i < length ends → slice_index_or (cut_at from ends octets) i [] ≡ slice_range octets (begins from ends i) (slice_index_or ends i 0)
cut_gives from [] octets i below = absurd (omega (arith, below))
cut_gives from (end ∷ ends) octets zero below = refl
cut_gives from (end ∷ ends) octets (suc zero) below = cut_gives end ends octets zero (omega (arith, below))
cut_gives from (end ∷ ends) octets (suc (suc i)) below = cut_gives end ends octets (suc i) (omega (arith, below))

-- one end after another
pub cut_ascends : (from : ℕ) (ends octets : List ℕ) (i : ℕ) → IsCut from ends octets → i < length ends
    → (begins from ends i ≤ slice_index_or ends i 0) × (slice_index_or ends i 0 ≤ length octets)
cut_ascends from [] octets i cut below = absurd (omega (arith, below))
cut_ascends from (end ∷ ends) octets zero cut below = (cut.0, omega (arith, cut_reaches end ends octets cut.1))
cut_ascends from (end ∷ ends) octets (suc zero) cut below = cut_ascends end ends octets zero cut.1 (omega (arith, below))
cut_ascends from (end ∷ ends) octets (suc (suc i)) cut below = cut_ascends end ends octets (suc i) cut.1 (omega (arith, below))
