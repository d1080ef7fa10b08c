-- Sums over lists of views that change at one place.
use Rattle.std.proofs.Common.{◌≡◌, ℕ, zero, suc, ◌+◌, ◌<◌, ◌≤◌, ◌≢◌, List, [], ◌∷◌, ◌++◌, set, sym, refl, ap, arith, cond, eq-eqb, ne_eqb}
use mathlib.Core.Option.{some, some-injective, some-ne-none}
use lib.ListN.{get_elem?}
use Rattle.history_lock.specs.Views.{total, hit}

module _ {A : Type 0} (g : A → ℕ) where
  pub total-append : (l m : List A) → total g (l ++ m) ≡ total g l + total g m
  total-append [] m = omega arith
  total-append (x ∷ xs) m = omega (arith, total-append xs m)

  pub total-set : (l : List A) (j : ℕ) (v w : A) → get_elem? l j ≡ some v → total g (set l j w) + g v ≡ total g l + g w
  total-set [] j v w e = absurd (some-ne-none v (sym e))
  total-set (x ∷ xs) zero v w e = omega (arith, ap g (some-injective x v e))
  total-set (x ∷ xs) (suc j) v w e = omega (arith, total-set xs j v w e)

  pub term_le : (l : List A) (j : ℕ) (v : A) → get_elem? l j ≡ some v → g v ≤ total g l
  term_le [] j v e = absurd (some-ne-none v (sym e))
  term_le (x ∷ xs) zero v e = omega (arith, ap g (some-injective x v e))
  term_le (x ∷ xs) (suc j) v e = omega (arith, term_le xs j v e)

  pub terms_le : (l : List A) (j k : ℕ) (v u : A) → k ≢ j → get_elem? l j ≡ some v → get_elem? l k ≡ some u → g v + g u ≤ total g l
  terms_le [] j k v u n e d = absurd (some-ne-none v (sym e))
  terms_le (x ∷ xs) zero zero v u n e d = absurd (n refl)
  terms_le (x ∷ xs) zero (suc k) v u n e d = omega (arith, ap g (some-injective x v e), term_le xs k u d)
  terms_le (x ∷ xs) (suc j) zero v u n e d = omega (arith, ap g (some-injective x u d), term_le xs j v e)
  terms_le (x ∷ xs) (suc j) (suc k) v u n e d = omega (arith, terms_le xs j k v u (λ h. n (ap suc h)) e d)

module _ {A : Type 0} (f g : A → ℕ) where
  pub total_mono : (l : List A) → ((j : ℕ) (v : A) → get_elem? l j ≡ some v → f v ≤ g v) → total f l ≤ total g l
  total_mono [] h = omega arith
  total_mono (x ∷ xs) h = omega (arith, h 0 x refl, total_mono xs (λ j v e. h (suc j) v e))

  -- less at one place, and nowhere more
  pub total_less : (l : List A) (i : ℕ) (w : A) → get_elem? l i ≡ some w → f w < g w → ((j : ℕ) (v : A) → get_elem? l j ≡ some v → f v ≤ g v)
      → total f l < total g l
  total_less [] i w e less h = absurd (some-ne-none w (sym e))
  total_less (x ∷ xs) zero w e less h = omega (arith, ap f (some-injective x w e), ap g (some-injective x w e), less, total_mono xs (λ j v d. h (suc j) v d))
  total_less (x ∷ xs) (suc i) w e less h = omega (arith, h 0 x refl, total_less xs i w e less (λ j v d. h (suc j) v d))

pub is_one : (n t : ℕ) → n ≡ t → hit n t ≡ 1
is_one n t e = ap (λ b. cond b 1 0) (eq-eqb n t e)

pub is_zero : (n t : ℕ) → n ≢ t → hit n t ≡ 0
is_zero n t ne = ap (λ b. cond b 1 0) (ne_eqb n t ne)
