-- A list that rises by its keys and keeps the order of those that are the same is the only one.
use Rattle.std.proofs.Common.{◌≡◌, ℕ, suc, ◌≤◌, ◌<◌, Bool, true, false, cond, not, ◌&&◌, List, [], ◌∷◌, length, get_or, filter, refl, sym, ap, subst, ◌∙◌, nat_lt, nat_le, nat_eq, arith}
use Rattle.std.proofs.lemmas.Bool.Decides.{nat_tests}
use Rattle.std.proofs.lemmas.List.Sorted.{IsNonDecreasingBy-from_sort}
use Rattle.std.proofs.lemmas.List.Elements.{filter_agree}
use Rattle.std.specs.Ordering.{is_lt, nat_cmp}
use Rattle.std.specs.List.Sorted.{IsSortedByKey, IsStableByKey, IsNonDecreasingBy, ties}

pub tie_is : (a b : ℕ) → not (is_lt (nat_cmp a b)) && not (is_lt (nat_cmp b a)) ≡ nat_eq b a
tie_is a b = grind (arith, nat_tests)

module _ {X : Type 0} (key : X → ℕ) where
  abbrev pub Above : ℕ → List X → Type 0
  Above k [] = Unit {0}
  Above k (x ∷ xs) = (k ≤ key x) × Above k xs

  abbrev pub Rising : List X → Type 0
  Rising [] = Unit {0}
  Rising (x ∷ xs) = Above (key x) xs × Rising xs

  abbrev pub at : ℕ → X → Bool
  at k x = nat_eq (key x) k

  pub below_above : (j k : ℕ) (xs : List X) → j ≤ k → Above k xs → Above j xs
  below_above j k [] h a = tt
  below_above j k (x ∷ xs) h a = (omega (arith, a.0), below_above j k xs h a.1)

  none_at : (j k : ℕ) (xs : List X) → k < j → Above j xs → filter (at k) xs ≡ []
  none_at j k [] h a = refl
  none_at j k (x ∷ xs) h a = let e : at k x ≡ false = grind (arith, nat_tests, a.0) in ap (λ b. cond b (x ∷ filter (at k) xs) (filter (at k) xs)) e ∙ none_at j k xs h a.1

  here : (x : X) (xs : List X) → filter (at (key x)) (x ∷ xs) ≡ x ∷ filter (at (key x)) xs
  here x xs = let e : at (key x) x ≡ true = grind (arith, nat_tests) in ap (λ b. cond b (x ∷ filter (at (key x)) xs) (filter (at (key x)) xs)) e

  abbrev pub Alike : List X → List X → Type 0
  Alike as_ bs = (z : X) → filter (at (key z)) as_ ≡ filter (at (key z)) bs

  no_cons : (x : X) (xs : List X) → x ∷ xs ≡ [] → ⊥
  no_cons x xs e = cc

  heads : (x y : X) (xs ys : List X) → x ∷ xs ≡ y ∷ ys → x ≡ y
  heads x y xs ys e = cc

  tails : (x y : X) (xs ys : List X) → x ∷ xs ≡ y ∷ ys → xs ≡ ys
  tails x y xs ys e = cc

  same_key : (x y : X) (xs ys : List X) → Rising (x ∷ xs) → Rising (y ∷ ys) → Alike (x ∷ xs) (y ∷ ys) → key x ≡ key y
  same_key x y xs ys r s h = by (nat_lt (key x) (key y)) (nat_lt (key y) (key x)) refl refl
    where
      by : (a b : Bool) → nat_lt (key x) (key y) ≡ a → nat_lt (key y) (key x) ≡ b → key x ≡ key y
      by true b p q = let lt : key x < key y = grind (arith, nat_tests) in absurd (no_cons x _ (sym (here x xs) ∙ (h x ∙ none_at (key y) (key x) (y ∷ ys) lt (omega arith, s.0))))
      by false true p q = let lt : key y < key x = grind (arith, nat_tests) in absurd (no_cons y _ (sym (here y ys) ∙ (sym (h y) ∙ none_at (key x) (key y) (x ∷ xs) lt (omega arith, r.0))))
      by false false p q = grind (arith, nat_tests)

  drop_head : (b : Bool) (x : X) (as_ bs : List X) → cond b (x ∷ as_) as_ ≡ cond b (x ∷ bs) bs → as_ ≡ bs
  drop_head true x as_ bs e = tails x x as_ bs e
  drop_head false x as_ bs e = e

  head_is : (x y : X) (xs ys : List X) → Rising (x ∷ xs) → Rising (y ∷ ys) → Alike (x ∷ xs) (y ∷ ys) → x ≡ y
  head_is x y xs ys r s h = let e = same_key x y xs ys r s h in
      let P : ℕ → Type 0 = λ k. filter (at k) (y ∷ ys) ≡ y ∷ filter (at k) ys in
      heads x y _ _ (sym (here x xs) ∙ (h x ∙ subst P (sym e) (here y ys)))

  pub only_one : (as_ bs : List X) → Rising as_ → Rising bs → Alike as_ bs → as_ ≡ bs
  only_one [] [] r s h = refl
  only_one [] (y ∷ ys) r s h = absurd (no_cons y _ (sym (here y ys) ∙ sym (h y)))
  only_one (x ∷ xs) [] r s h = absurd (no_cons x _ (sym (here x xs) ∙ h x))
  only_one (x ∷ xs) (y ∷ ys) r s h = let e = head_is x y xs ys r s h in
      let Q : X → Type 0 = λ u. Alike (x ∷ xs) (u ∷ ys) in
      let g = subst Q (sym e) h in
      ap (λ z. z ∷ xs) e ∙ ap (λ l. y ∷ l) (only_one xs ys r.1 s.1 (λ z. drop_head (at (key z) x) x _ _ (g z)))

  above-from : (k : ℕ) (xs : List X) → ((i : ℕ) (d : X) → i < length xs → k ≤ key (get_or xs i d)) → Above k xs
  above-from k [] h = tt
  above-from k (x ∷ xs) h = (h 0 x (omega arith), above-from k xs (λ i d l. h (suc i) d (omega arith)))

  pub rising-from : (xs : List X) → IsNonDecreasingBy key xs → Rising xs
  rising-from [] h = tt
  rising-from (x ∷ xs) h = (above-from (key x) xs (λ i d l. h 0 (suc i) d (omega arith) (omega arith)), rising-from xs (λ i j d l m. h (suc i) (suc j) d (omega arith) (omega arith)))

  -- a stable sort leaves those with a key in their order
  pub alike-from : (xs ys : List X) → IsStableByKey key nat_cmp xs ys → (x : X) → filter (at (key x)) ys ≡ filter (at (key x)) xs
  alike-from xs ys h x = sym (filter_agree (ties (λ a b. is_lt (nat_cmp (key a) (key b))) x) (at (key x)) (λ y. tie_is (key x) (key y)) ys)
      ∙ (h x ∙ filter_agree (ties (λ a b. is_lt (nat_cmp (key a) (key b))) x) (at (key x)) (λ y. tie_is (key x) (key y)) xs)

  -- each put in before the first that isn't below it
  abbrev pub insert_by : X → List X → List X
  insert_by x [] = x ∷ []
  insert_by x (y ∷ ys) = cond (nat_le (key x) (key y)) (x ∷ y ∷ ys) (y ∷ insert_by x ys)

  abbrev pub sort_by : List X → List X
  sort_by [] = []
  sort_by (x ∷ xs) = insert_by x (sort_by xs)

  above_insert : (k : ℕ) (x : X) (ys : List X) → k ≤ key x → Above k ys → Above k (insert_by x ys)
  above_insert k x [] h a = (h, tt)
  above_insert k x (y ∷ ys) h a = by (nat_le (key x) (key y)) (above_insert k x ys h a.1)
    where
      by : (b : Bool) → Above k (insert_by x ys) → Above k (cond b (x ∷ y ∷ ys) (y ∷ insert_by x ys))
      by true go = (h, a)
      by false go = (a.0, go)

  rising_insert : (x : X) (ys : List X) → Rising ys → Rising (insert_by x ys)
  rising_insert x [] r = (tt, tt)
  rising_insert x (y ∷ ys) r = by (nat_le (key x) (key y)) refl (rising_insert x ys r.1)
    where
      by : (b : Bool) → nat_le (key x) (key y) ≡ b → Rising (insert_by x ys) → Rising (cond b (x ∷ y ∷ ys) (y ∷ insert_by x ys))
      by true e go = let h : key x ≤ key y = grind (arith, nat_tests) in ((h, below_above (key x) (key y) ys h r.0), (r.0, r.1))
      by false e go = let h : key y ≤ key x = grind (arith, nat_tests) in (above_insert (key y) x ys h r.0, go)

  true_not : true ≡ false → ⊥
  true_not h = cc

  swap : (p q : Bool) (x y : X) (fs gs : List X) → (p ≡ true → q ≡ false) → gs ≡ cond p (x ∷ fs) fs → cond q (y ∷ gs) gs ≡ cond p (x ∷ cond q (y ∷ fs) fs) (cond q (y ∷ fs) fs)
  swap true true x y fs gs n e = absurd (true_not (n refl))
  swap true false x y fs gs n e = e
  swap false q x y fs gs n e = ap (λ z. cond q (y ∷ z) z) e

  alike_insert : (k : ℕ) (x : X) (ys : List X) → filter (at k) (insert_by x ys) ≡ filter (at k) (x ∷ ys)
  alike_insert k x [] = refl
  alike_insert k x (y ∷ ys) = by (nat_le (key x) (key y)) refl (alike_insert k x ys)
    where
      by : (b : Bool) → nat_le (key x) (key y) ≡ b → filter (at k) (insert_by x ys) ≡ filter (at k) (x ∷ ys) → filter (at k) (cond b (x ∷ y ∷ ys) (y ∷ insert_by x ys)) ≡ filter (at k) (x ∷ y ∷ ys)
      by true e go = refl
      by false e go = swap (at k x) (at k y) x y (filter (at k) ys) _ (λ h. grind (arith, nat_tests)) go

  rising_sort : (xs : List X) → Rising (sort_by xs)
  rising_sort [] = tt
  rising_sort (x ∷ xs) = rising_insert x (sort_by xs) (rising_sort xs)

  alike_sort : (k : ℕ) (xs : List X) → filter (at k) (sort_by xs) ≡ filter (at k) xs
  alike_sort k [] = refl
  alike_sort k (x ∷ xs) = alike_insert k x (sort_by xs) ∙ ap (λ fs. cond (at k x) (x ∷ fs) fs) (alike_sort k xs)

  pub sorted_is : (xs ys : List X) → IsSortedByKey key nat_cmp ys → IsStableByKey key nat_cmp xs ys → ys ≡ sort_by xs
  sorted_is xs ys s t = only_one ys (sort_by xs) (rising-from ys (IsNonDecreasingBy-from_sort key ys s)) (rising_sort xs) (λ z. alike-from xs ys t z ∙ sym (alike_sort (key z) xs))
