-- Sums over lists: of the parts of a split list, and over elements that differ among others.
use Rattle.std.proofs.Common.{◌≡◌, ℕ, ◌+◌, ◌≤◌, inl, inr, List, [], ◌∷◌, ◌++◌, refl, sym, ap, subst, arith}
use Rattle.std.specs.List.{sum_by}
use Rattle.std.proofs.lemmas.List.Sums.{sum_by-cons, sum_by-append}
use Rattle.list_laws.proofs.Among.{Among}
use Rattle.list_laws.proofs.Distinct.{Differ}

-- a list that is split at an element
pub record IsSplit {X : Type 0} (x : X) (ys : List X) : Type 0 where
  pub before : List X
  pub after : List X
  pub is : ys ≡ before ++ x ∷ after

pub split-at : {X : Type 0} (x : X) (ys : List X) → Among x ys → IsSplit x ys
split-at x [] i = absurd i
split-at x (y ∷ ys) (inl e) = record { before = []; after = ys; is = ap (λ z. z ∷ ys) (sym e) }
split-at x (y ∷ ys) (inr i) = let s = split-at x ys i in record { before = y ∷ s.before; after = s.after; is = ap (λ l. y ∷ l) s.is }

pub without : {X : Type 0} (x z : X) (as_ bs : List X) → Among z (as_ ++ x ∷ bs) → (z ≡ x → ⊥) → Among z (as_ ++ bs)
without x z [] bs (inl e) apart = absurd (apart e)
without x z [] bs (inr i) apart = i
without x z (a ∷ as_) bs (inl e) apart = inl e
without x z (a ∷ as_) bs (inr i) apart = inr (without x z as_ bs i apart)

pub sum_same : {X : Type 0} (f g : X → ℕ) → ((x : X) → f x ≡ g x) → (xs : List X) → sum_by f xs ≡ sum_by g xs
sum_same f g same [] = refl
sum_same f g same (x ∷ xs) = omega (arith, same x, sum_same f g same xs, sum_by-cons f x xs, sum_by-cons g x xs)

module _ {X : Type 0} (f : X → ℕ) where
  pub sum-split : (x : X) (as_ bs : List X) → sum_by f (as_ ++ x ∷ bs) ≡ f x + sum_by f (as_ ++ bs)
  sum-split x as_ bs = omega (arith, sum_by-append f as_ (x ∷ bs), sum_by-append f as_ bs, sum_by-cons f x bs)

  -- a part of the sum
  pub one-part : (x : X) (ys : List X) → Among x ys → f x ≤ sum_by f ys
  one-part x ys i = let s = split-at x ys i in omega (arith, ap (sum_by f) s.is, sum-split x s.before s.after)

  -- elements that differ, among others
  pub sum-among : (xs ys : List X) → Differ xs → ((x : X) → Among x xs → Among x ys) → sum_by f xs ≤ sum_by f ys
  sum-among [] ys d h = omega arith
  sum-among (x ∷ xs) ys d h =
      let s = split-at x ys (h x (inl refl)) in
      let rest = sum-among xs (s.before ++ s.after) d.1 (λ z i. without x z s.before s.after (subst (Among z) s.is (h z (inr i))) (λ e. d.0 (subst (λ y. Among y xs) e i))) in
      omega (arith, ap (sum_by f) s.is, sum-split x s.before s.after, sum_by-cons f x xs, rest)
