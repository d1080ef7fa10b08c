-- What setting a flag makes of the numbers whose flag is set.
use Rattle.std.proofs.Common.{◌≡◌, ◌≤◌, ◌<◌, ℕ, zero, suc, ◌+◌, ◌-◌, Bool, true, false, List, [], ◌∷◌, length, refl, sym, ap, ◌∙◌, subst, arith}
use Rattle.std.specs.Prelude.{replicate, slice_set, nat_lt, ◌==◌, not, if◌then◌else◌}
use Rattle.std.specs.Bool.{beq}
use Rattle.std.specs.List.{filter, list_any}
use Rattle.std.proofs.lemmas.Grind.{common_steps}
use Rattle.std.proofs.lemmas.Bool.Decides.{nat_tests}
use Rattle.bay_model.specs.Breaks.{is_empty}
use Rattle.bay_model.specs.Reservations.{with_number, without_number}
use Rattle.brcb_state.specs.Flags.{numbers_from}

-- a number stands in front of the ones above it
in-front : (k j : ℕ) (fs : List Bool) → k < j → with_number k (numbers_from j fs) ≡ k ∷ numbers_from j fs
in-front k j [] h = refl
in-front k j (true ∷ fs) h = let t : nat_lt k j ≡ true = grind (arith, nat_tests, h) in rw t refl
in-front k j (false ∷ fs) h = in-front k (suc j) fs (omega (arith, h))

set-at : (k i : ℕ) (fs : List Bool) → i < length fs → numbers_from k (slice_set fs i true) ≡ with_number (k + i) (numbers_from k fs)
set-at k i [] h = absurd (omega (arith, h))
set-at k zero (true ∷ fs) h =
    let below : nat_lt (k + 0) k ≡ false = grind (arith, nat_tests) in
    let same : ((k + 0) == k) ≡ true = grind (arith, nat_tests) in
    rw (below, same) refl
set-at k zero (false ∷ fs) h = sym (in-front (k + 0) (suc k) fs (omega arith) ∙ ap (λ n. n ∷ numbers_from (suc k) fs) (omega arith))
set-at k (suc i) (true ∷ fs) h =
    let below : nat_lt (k + suc i) k ≡ false = grind (arith, nat_tests) in
    let other : ((k + suc i) == k) ≡ false = grind (arith, nat_tests) in
    let rest : numbers_from (suc k) (slice_set fs i true) ≡ with_number (suc k + i) (numbers_from (suc k) fs) = set-at (suc k) i fs (omega (arith, h)) in
    let e : (suc k + i) ≡ (k + suc i) = omega arith in
    rw (below, other) (ap (λ l. k ∷ l) (rest ∙ ap (λ n. with_number n (numbers_from (suc k) fs)) e))
set-at k (suc i) (false ∷ fs) h = set-at (suc k) i fs (omega (arith, h)) ∙ ap (λ n. with_number n (numbers_from (suc k) fs)) (omega arith)

pub is_set : (a : ℕ) (fs : List Bool) → 1 ≤ a → a ≤ length fs → numbers_from 1 (slice_set fs (a - 1) true) ≡ with_number a (numbers_from 1 fs)
is_set a fs least most = set-at 1 (a - 1) fs (omega (arith, least, most)) ∙ ap (λ n. with_number n (numbers_from 1 fs)) (omega (arith, least))

-- a number below all others isn't among them
not-there : (a k : ℕ) (fs : List Bool) → a < k → without_number a (numbers_from k fs) ≡ numbers_from k fs
not-there a k [] h = refl
not-there a k (true ∷ fs) h = let t : (k == a) ≡ false = grind (arith, nat_tests, h) in rw t (ap (λ l. k ∷ l) (not-there a (suc k) fs (omega (arith, h))))
not-there a k (false ∷ fs) h = not-there a (suc k) fs (omega (arith, h))

unset-at : (k i : ℕ) (fs : List Bool) → i < length fs → numbers_from k (slice_set fs i false) ≡ without_number (k + i) (numbers_from k fs)
unset-at k i [] h = absurd (omega (arith, h))
unset-at k zero (true ∷ fs) h =
    let same : (k == (k + 0)) ≡ true = grind (arith, nat_tests) in
    rw same (sym (not-there (k + 0) (suc k) fs (omega arith)))
unset-at k zero (false ∷ fs) h = sym (not-there (k + 0) (suc k) fs (omega arith))
unset-at k (suc i) (true ∷ fs) h =
    let other : (k == (k + suc i)) ≡ false = grind (arith, nat_tests) in
    let rest : numbers_from (suc k) (slice_set fs i false) ≡ without_number (suc k + i) (numbers_from (suc k) fs) = unset-at (suc k) i fs (omega (arith, h)) in
    let e : (suc k + i) ≡ (k + suc i) = omega arith in
    rw other (ap (λ l. k ∷ l) (rest ∙ ap (λ n. without_number n (numbers_from (suc k) fs)) e))
unset-at k (suc i) (false ∷ fs) h = unset-at (suc k) i fs (omega (arith, h)) ∙ ap (λ n. without_number n (numbers_from (suc k) fs)) (omega arith)

pub is_unset : (a : ℕ) (fs : List Bool) → 1 ≤ a → a ≤ length fs → numbers_from 1 (slice_set fs (a - 1) false) ≡ without_number a (numbers_from 1 fs)
is_unset a fs least most = unset-at 1 (a - 1) fs (omega (arith, least, most)) ∙ ap (λ n. without_number n (numbers_from 1 fs)) (omega (arith, least))

pub none_set : (k n : ℕ) → numbers_from k (replicate n false) ≡ []
none_set k zero = refl
none_set k (suc n) = none_set (suc k) n

-- a flag is set exactly where there is a number
pub none_there : (k : ℕ) (fs : List Bool) → not (list_any (λ y. beq y true) fs) ≡ is_empty (numbers_from k fs)
none_there k [] = refl
none_there k (true ∷ fs) = refl
none_there k (false ∷ fs) = none_there (suc k) fs
