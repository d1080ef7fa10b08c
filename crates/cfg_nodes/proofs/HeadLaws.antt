-- What stands before the first `$` of a reference and of what is above it.
use Rattle.std.proofs.Common.{◌≡◌, ℕ, zero, suc, ◌+◌, ◌<◌, ◌≤◌, ◌==◌, ◌⊎◌, inl, inr, Bool, true, false, cond, ◌||◌, List, [], ◌∷◌, ◌++◌, length, take, get_or, refl, sym, ap, ◌∙◌, arith, length-append}
use Rattle.std.proofs.Math.Seq.{take-append_seam}
use Rattle.std.specs.Prelude.{slice_index, not}
use Rattle.std.specs.List.{list_any, prefix_len}
use Rattle.std.specs.Str.{bytes_eq}
use Rattle.std.proofs.lemmas.Bool.{or_cases, or_right, cond_both, eqb-true}
use Rattle.std.proofs.lemmas.Slice.Eq.{bytes_eq-Decides}
use Rattle.cfg_lines.specs.Keys.{is_among, added}
use Rattle.cfg_lines.specs.Paths.{above, above_within, below, node_key, item_key}
use Rattle.cfg_lines.proofs.KeyLaws.{any-added}
use Rattle.cfg_nodes.specs.Asked.{is_wanted, head, HasHeads, IsApart}
use Rattle.list_laws.proofs.Truths.{fails-back as differs}

abbrev Names : Type 0
Names = List (List ℕ)

one-more : (m : ℕ) (x : ℕ) (xs : List ℕ) → take (1 + m) (x ∷ xs) ≡ x ∷ take m xs
one-more m x xs = let e : 1 + m ≡ suc m = omega arith in ap (λ k. take k (x ∷ xs)) e

-- what stands before a `$` has the same head
head-front : (path : List ℕ) (n : ℕ) → n < length path → get_or path n 0 ≡ 36 → head (take n path) ≡ head path
head-front [] n lt is = absurd (omega (arith, lt))
head-front (x ∷ path) zero lt is = sym (ap (λ y. head (y ∷ path)) is)
head-front (x ∷ path) (suc n) lt is = by (x == 36) (head-front path n (omega (arith, lt)) is)
  where
    by : (b : Bool) → head (take n path) ≡ head path → take (cond (not b) (1 + prefix_len (λ o. not (o == 36)) (take n path)) 0) (x ∷ take n path) ≡ take (cond (not b) (1 + prefix_len (λ o. not (o == 36)) path) 0) (x ∷ path)
    by true same = refl
    by false same = one-more (prefix_len (λ o. not (o == 36)) (take n path)) x (take n path) ∙ (ap (λ l. x ∷ l) same ∙ sym (one-more (prefix_len (λ o. not (o == 36)) path) x path))

-- a structure above a path that is asked for has the path's head
above-head : (refs heads : Names) (path : List ℕ) (n : ℕ) → n ≤ length path → HasHeads refs heads → list_any (λ front. is_among refs front) (above_within n path) ≡ true → is_among heads (head path) ≡ true
above-head refs heads path zero le has is = absurd cc
above-head refs heads path (suc n) le has is = by (slice_index path n == 36) refl (above-head refs heads path n (omega (arith, le)) has) is
  where
    here : get_or path n 0 ≡ 36 → (list_any (λ front. is_among refs front) (above_within n path) ≡ true → is_among heads (head path) ≡ true)
        → (is_among refs (take n path) ≡ true) ⊎ (list_any (λ front. is_among refs front) (above_within n path) ≡ true) → is_among heads (head path) ≡ true
    here e rest (inl front) = sym (ap (is_among heads) (head-front path n (omega (arith, le)) e)) ∙ has (take n path) front
    here e rest (inr further) = rest further

    by : (b : Bool) → (slice_index path n == 36) ≡ b → (list_any (λ front. is_among refs front) (above_within n path) ≡ true → is_among heads (head path) ≡ true)
        → list_any (λ front. is_among refs front) (cond b (take n path ∷ above_within n path) (above_within n path)) ≡ true → is_among heads (head path) ≡ true
    by true e rest any = here (eqb-true (slice_index path n) 36 e) rest (or_cases _ _ any)
    by false e rest any = rest any

wanted-head : (refs heads : Names) (path : List ℕ) → HasHeads refs heads → is_wanted refs path ≡ true → is_among heads (head path) ≡ true
wanted-head refs heads path has is = by (or_cases _ _ is)
  where
    by : (is_among refs path ≡ true) ⊎ (list_any (λ front. is_among refs front) (above path) ≡ true) → is_among heads (head path) ≡ true
    by (inl here) = has path here
    by (inr higher) = above-head refs heads path (length path) (omega arith) has higher

-- the head of what is below a path
head-below : (front name : List ℕ) → head (below front name) ≡ head front
head-below front name = sym (head-front (below front name) (length front) (omega (arith, length-append front (36 ∷ name))) (at front)) ∙ ap head (take-append_seam front (36 ∷ name))
  where
    at : (xs : List ℕ) → get_or (xs ++ 36 ∷ name) (length xs) 0 ≡ 36
    at [] = refl
    at (x ∷ xs) = at xs

-- nothing of a logical node is wanted whose head isn't among the heads
pub apart : (refs heads : Names) (domain node key : List ℕ) (may : Bool) → HasHeads refs heads → key ≡ node_key domain node → may ≡ is_among heads (head key) → may ≡ false → IsApart refs domain node
apart refs heads domain node key may has k m off fc path = differs (is_wanted refs (item_key domain node fc path)) (is_among heads (head (node_key domain node)))
    (λ is. sym (ap (is_among heads) (head-below (below (node_key domain node) fc) path ∙ head-below (node_key domain node) fc)) ∙ wanted-head refs heads (item_key domain node fc path) has is)
    (sym (ap (λ l. is_among heads (head l)) k) ∙ (sym m ∙ off))

-- one more
pub heads-more : (refs heads newer heads_after : Names) (reference : List ℕ) → HasHeads refs heads → newer ≡ added refs reference → ((q : List ℕ) → is_among heads_after q ≡ (bytes_eq q (head reference) || is_among heads q)) → HasHeads newer heads_after
heads-more refs heads newer heads_after reference has n h q is = h (head q) ∙ by (or_cases _ _ (sym (any-added (bytes_eq q) refs reference) ∙ (sym (ap (λ l. is_among l q) n) ∙ is)))
  where
    by : (bytes_eq q reference ≡ true) ⊎ (is_among refs q ≡ true) → (bytes_eq (head q) (head reference) || is_among heads (head q)) ≡ true
    by (inl same) = ap (λ b. b || is_among heads (head q)) ((bytes_eq-Decides (head q) (head reference)).1 (ap head ((bytes_eq-Decides q reference).0 same)))
    by (inr there) = or_right (bytes_eq (head q) (head reference)) _ (has q there)
