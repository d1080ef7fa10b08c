-- Parts between separators, one by one.
use Rattle.std.proofs.Common.{◌≡◌, ℕ, zero, suc, ◌+◌, ◌-◌, ◌<◌, ◌≤◌, Bool, true, false, List, [], ◌∷◌, ◌++◌, map, length, take, drop, get_or, refl, sym, ap, ap₂, ◌∙◌, arith, append_assoc, take_all, inl, inr}
use Rattle.std.specs.Borrow.{Bor}
use Rattle.std.specs.List.{slice_split, onto_first}
use Rattle.std.proofs.lemmas.Bool.{cases_eq}
use Rattle.std.proofs.lemmas.List.{map-append, length-drop}
use Rattle.std.proofs.lemmas.List.Splits.{slice_split-cons_yes, slice_split-cons_no}
use Rattle.text_words.specs.Words.{texts}

module _ (p : ℕ → Bool) where
  first-part : (i : ℕ) (xs : List ℕ) → i < length xs → ((k : ℕ) → k < i → p (get_or xs k 0) ≡ false) → p (get_or xs i 0) ≡ true → slice_split p xs ≡ take i xs ∷ slice_split p (drop (suc i) xs)
  first-part i [] lt before at = absurd (omega (arith, lt))
  first-part zero (x ∷ xs) lt before at = slice_split-cons_yes p x xs at
  first-part (suc i) (x ∷ xs) lt before at = slice_split-cons_no p x xs (before 0 (omega arith)) ∙ ap (onto_first x) (first-part i xs (omega (arith, lt)) (λ k h. before (suc k) (omega (arith, h))) at)

  -- the part from a place to the next separator
  pub next-part : (start i : ℕ) (xs : List ℕ) → start ≤ i → i < length xs → ((k : ℕ) → start ≤ k → k < i → p (get_or xs k 0) ≡ false) → p (get_or xs i 0) ≡ true
      → slice_split p (drop start xs) ≡ take (i - start) (drop start xs) ∷ slice_split p (drop (i + 1) xs)
  next-part start i [] le lt before at = absurd (omega (arith, lt))
  next-part zero i (x ∷ xs) le lt before at = let same : i ≡ i - 0 = omega arith in let next : suc i ≡ i + 1 = omega arith in
      first-part i (x ∷ xs) lt (λ k h. before k (omega arith) h) at ∙ ap₂ (λ n m. take n (x ∷ xs) ∷ slice_split p (drop m (x ∷ xs))) same next
  next-part (suc start) zero (x ∷ xs) le lt before at = absurd (omega (arith, le))
  next-part (suc start) (suc i) (x ∷ xs) le lt before at = let same : i - start ≡ suc i - suc start = omega arith in let further : suc (i + 1) ≡ suc i + 1 = omega arith in
      next-part start i xs (omega (arith, le)) (omega (arith, lt)) (λ k g h. before (suc k) (omega (arith, g)) (omega (arith, h))) at ∙ ap₂ (λ n m. take n (drop start xs) ∷ slice_split p (drop m (x ∷ xs))) same further

  -- the part after the last separator
  pub last-part : (start : ℕ) (xs : List ℕ) → ((k : ℕ) → start ≤ k → k < length xs → p (get_or xs k 0) ≡ false) → slice_split p (drop start xs) ≡ drop start xs ∷ []
  last-part zero [] none = refl
  last-part zero (x ∷ xs) none = slice_split-cons_no p x xs (none 0 (omega arith) (omega arith)) ∙ ap (onto_first x) (last-part zero xs (λ k g h. none (suc k) (omega arith) (omega (arith, h))))
  last-part (suc start) [] none = refl
  last-part (suc start) (x ∷ xs) none = last-part start xs (λ k g h. none (suc k) (omega (arith, g)) (omega (arith, h)))

  pub parts-more : (start i after : ℕ) (xs : List ℕ) (old new : List (Bor (List ℕ))) (part : Bor (List ℕ)) → start ≤ i → i < length xs → ((k : ℕ) → start ≤ k → k < i → p (get_or xs k 0) ≡ false) → p (get_or xs i 0) ≡ true
      → after ≡ i + 1 → part.now ≡ take (i - start) (drop start xs) → new ≡ old ++ part ∷ [] → texts old ++ slice_split p (drop start xs) ≡ slice_split p xs → texts new ++ slice_split p (drop after xs) ≡ slice_split p xs
  parts-more start i after xs old new part le lt before at a here n is =
      ap₂ (λ l m. texts l ++ slice_split p (drop m xs)) n a ∙ (ap (λ l. l ++ slice_split p (drop (i + 1) xs)) (map-append (λ (w : Bor (List ℕ)). w.now) old (part ∷ []))
      ∙ (append_assoc (texts old) (part.now ∷ []) (slice_split p (drop (i + 1) xs))
      ∙ (ap (λ l. texts old ++ l) (ap (λ w. w ∷ slice_split p (drop (i + 1) xs)) here ∙ sym (next-part start i xs le lt before at)) ∙ is)))

  pub parts-end : (start i : ℕ) (xs : List ℕ) (old new : List (Bor (List ℕ))) (part : Bor (List ℕ)) → length xs ≤ i → ((k : ℕ) → start ≤ k → k < i → p (get_or xs k 0) ≡ false)
      → part.now ≡ take (length xs - start) (drop start xs) → new ≡ old ++ part ∷ [] → texts old ++ slice_split p (drop start xs) ≡ slice_split p xs → texts new ≡ slice_split p xs
  parts-end start i xs old new part le before here n is = ap texts n ∙ (map-append (λ (w : Bor (List ℕ)). w.now) old (part ∷ [])
      ∙ (ap (λ l. texts old ++ l) (ap (λ w. w ∷ []) (here ∙ take_all (length xs - start) (drop start xs) (omega (arith, length-drop start xs))) ∙ sym (last-part start xs (λ k g h. before k g (omega (arith, h, le))))) ∙ is))

  pub none-more : (start i : ℕ) (xs : List ℕ) → ((k : ℕ) → start ≤ k → k < i → p (get_or xs k 0) ≡ false) → p (get_or xs i 0) ≡ false → (k : ℕ) → start ≤ k → k < i + 1 → p (get_or xs k 0) ≡ false
  none-more start i xs before at k g h = elim (cases_eq k i) [
    | inl e ↦ ap (λ n. p (get_or xs n 0)) e ∙ at
    | inr ne ↦ before k g (omega (arith, h, ne))
  ]
