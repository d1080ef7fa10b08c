-- The octets of a node by those of its parts.
use Rattle.std.proofs.Common.{◌≡◌, ◌≢◌, ℕ, zero, suc, ◌+◌, ◌-◌, ◌<◌, ◌≤◌, List, [], ◌∷◌, length, take, get_or, Option, None, Some, unwrap_or, refl, sym, ap, ap₂, ◌∙◌, arith}
use Rattle.std.specs.Borrow.{Bor}
use Rattle.std.specs.List.{sum_by}
use Rattle.std.proofs.lemmas.List.Sums.{sum_by-cons, sum_by_more, sum_by_more_le}
use Rattle.std.proofs.lemmas.Bool.Decides.{nat_tests}
use Rattle.list_laws.proofs.Among.{Each}
use Rattle.text_words.specs.Words.{texts}
use Rattle.cfg_lines.specs.Sizes.{element_octets, octets_of}
use Rattle.cfg_nodes.specs.Indexed.{capped}

pub capped_small : (n : ℕ) → capped n ≤ 500 → capped n ≡ n
capped_small n le = grind (arith, nat_tests)

pub capped_large : (n : ℕ) → 500 < n → capped n ≡ 501
capped_large n lt = grind (arith, nat_tests)

pub capped_within : (n : ℕ) → capped n ≤ 501
capped_within n = grind (arith, nat_tests)

sum_items : (f : List ℕ → ℕ) (items : List (Bor (List ℕ))) → sum_by f (texts items) ≡ sum_by (λ v. f v.now) items
sum_items f [] = refl
sum_items f (v ∷ items) = sum_by-cons f v.now (texts items) ∙ (ap (λ n. f v.now + n) (sum_items f items) ∙ sym (sum_by-cons (λ v. f v.now) v items))

sum_same : {X : Type 0} (P : X → Type 0) (f g : X → ℕ) → ((x : X) → P x → f x ≡ g x) → (xs : List X) → Each P xs → sum_by f xs ≡ sum_by g xs
sum_same P f g each [] all = refl
sum_same P f g each (x ∷ xs) all = sum_by-cons f x xs ∙ (ap₂ (λ a b. a + b) (each x all.0) (sum_same P f g each xs all.1) ∙ sym (sum_by-cons g x xs))

-- only what is found of a node and of what lies below it counts
module _ (P : List ℕ → Type 0) (leaf other : List ℕ → Option ℕ) (parts further : List ℕ → List (List ℕ)) (leaves : (node : List ℕ) → P node → leaf node ≡ other node)
    (same : (node : List ℕ) → P node → parts node ≡ further node) (below : (node : List ℕ) → P node → Each P (further node)) where
  pub octets_same : (depth : ℕ) (node : List ℕ) → P node → octets_of depth leaf parts node ≡ octets_of depth other further node
  unfolding octets_of
  octets_same zero node is = refl
  octets_same (suc depth) node is =
      ap (λ r. unwrap_or r (element_octets (sum_by (λ part. octets_of depth leaf parts part) (parts node)))) (leaves node is)
      ∙ ap (λ n. unwrap_or (other node) (element_octets n)) (ap (λ ps. sum_by (λ part. octets_of depth leaf parts part) ps) (same node is)
      ∙ sum_same P (λ part. octets_of depth leaf parts part) (λ part. octets_of depth other further part) (octets_same depth) (further node) (below node is))

module _ (leaf : List ℕ → Option ℕ) (parts : List ℕ → List (List ℕ)) (node : List ℕ) where
  pub leaf_found : (depth n : ℕ) → depth ≢ 0 → leaf node ≡ Some n → octets_of depth leaf parts node ≡ n
  unfolding octets_of
  leaf_found zero n some is = absurd (some refl)
  leaf_found (suc depth) n some is = ap (λ r. unwrap_or r (element_octets (sum_by (λ part. octets_of depth leaf parts part) (parts node)))) is

  abbrev pub sum_below : ℕ → List (Bor (List ℕ)) → ℕ
  sum_below depth items = sum_by (λ v. octets_of depth leaf parts v.now) items

  pub structure_found : (depth : ℕ) (items : List (Bor (List ℕ))) → depth ≢ 0 → leaf node ≡ None → texts items ≡ parts node → octets_of depth leaf parts node ≡ element_octets (sum_below (depth - 1) items)
  unfolding octets_of
  structure_found zero items some none are = absurd (some refl)
  structure_found (suc depth) items some none are =
      let same : suc depth - 1 ≡ depth = omega arith in
      ap (λ r. unwrap_or r (element_octets (sum_by (λ part. octets_of depth leaf parts part) (parts node)))) none
      ∙ (ap (λ ps. element_octets (sum_by (λ part. octets_of depth leaf parts part) ps)) (sym are)
      ∙ (ap element_octets (sum_items (λ part. octets_of depth leaf parts part) items)
      ∙ sym (ap (λ d. element_octets (sum_below d items)) same)))

  -- the sum is above 500 with a part
  pub structure_large : (depth sum part i : ℕ) (items : List (Bor (List ℕ))) (d : Bor (List ℕ)) → depth ≢ 0 → leaf node ≡ None → texts items ≡ parts node → i < length items
      → sum ≡ sum_below (depth - 1) (take i items) → part ≡ capped (octets_of (depth - 1) leaf parts (get_or items i d).now) → 500 < sum + part → 500 < octets_of depth leaf parts node
  structure_large depth sum part i items d some none are lt is given over = omega (arith, structure_found depth items some none are, le, sum_by_more_le (λ v. octets_of (depth - 1) leaf parts v.now) items i d lt, is, given, over)
    where
      le : part ≤ octets_of (depth - 1) leaf parts (get_or items i d).now
      le = grind (arith, nat_tests, given)

  -- the sum with a part that is at most 500
  pub structure_more : (depth sum part i : ℕ) (items : List (Bor (List ℕ))) (d : Bor (List ℕ)) → i < length items
      → sum ≡ sum_below (depth - 1) (take i items) → part ≡ capped (octets_of (depth - 1) leaf parts (get_or items i d).now) → sum + part ≤ 500 → sum + part ≡ sum_below (depth - 1) (take (i + 1) items)
  structure_more depth sum part i items d lt is given few =
      let small : capped (octets_of (depth - 1) leaf parts (get_or items i d).now) ≤ 500 = omega (arith, given, few) in
      let exact : part ≡ octets_of (depth - 1) leaf parts (get_or items i d).now = given ∙ capped_small _ small in
      omega (arith, sum_by_more (λ v. octets_of (depth - 1) leaf parts v.now) items i d lt, is, exact)
