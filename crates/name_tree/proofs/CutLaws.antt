-- The first node of a reference is the least of those that are found where it may be cut into a domain and an item.
use Rattle.std.proofs.Common.{◌≡◌, ℕ, zero, suc, ◌+◌, ◌<◌, ◌==◌, nat_lt, Bool, true, false, cond, ◌&&◌, ◌||◌, List, [], ◌∷◌, ◌++◌, length, take, drop, get_or, position, Option, None, Some, refl, sym, ap, ap₂, ◌∙◌, arith, length-append}
use Rattle.std.specs.Str.{bytes_eq}
use Rattle.std.specs.Option.{option_map}
use Rattle.std.proofs.lemmas.Bool.Decides.{nat_tests}
use Rattle.list_laws.proofs.Places.{place-cons, equal-number, same-of}
use Rattle.bay_model.specs.Model.{Node}
use Rattle.bay_model.specs.Lookups.{reference_of}
use Rattle.name_tree.specs.Finding.{node_named, is_cut, is_cut_below, least}
use Rattle.list_laws.proofs.Truths.{and-both as both, both-ways}
use Rattle.list_laws.proofs.Distinct.{octets_same, octets_equal}

-- ---- the first place at which one of two tests passes

step : (a b : Bool) (r s : Option ℕ) → cond (a || b) (Some 0) (option_map (λ n. n + 1) (least r s)) ≡ least (cond a (Some 0) (option_map (λ n. n + 1) r)) (cond b (Some 0) (option_map (λ n. n + 1) s))
step true true r s = refl
step true false r None = refl
step true false r (Some y) = ap Some (omega arith)
step false true None s = refl
step false true (Some x) s = ap Some (omega arith)
step false false None s = refl
step false false (Some x) None = refl
step false false (Some x) (Some y) = ap Some (omega arith)

module _ {X : Type 0} (p q : X → Bool) where
  pub either-first : (xs : List X) → position (λ x. p x || q x) xs ≡ least (position p xs) (position q xs)
  either-first [] = refl
  either-first (x ∷ xs) = place-cons (λ x. p x || q x) x xs ∙ (ap (λ r. cond (p x || q x) (Some 0) (option_map (λ n. n + 1) r)) (either-first xs)
      ∙ (step (p x) (q x) (position p xs) (position q xs) ∙ sym (ap₂ least (place-cons p x xs) (place-cons q x xs))))

  pub same-first : (xs : List X) → ((x : X) → p x ≡ q x) → position p xs ≡ position q xs
  same-first [] h = refl
  same-first (x ∷ xs) h = place-cons p x xs ∙ (ap₂ (λ b r. cond b (Some 0) (option_map (λ n. n + 1) r)) (h x) (same-first xs h) ∙ sym (place-cons q x xs))

none-first : {X : Type 0} (p : X → Bool) (xs : List X) → ((x : X) → p x ≡ false) → position p xs ≡ None
none-first p [] h = refl
none-first p (x ∷ xs) h = place-cons p x xs ∙ ap₂ (λ b r. cond b (Some 0) (option_map (λ n. n + 1) r)) (h x) (none-first p xs h)

-- ---- a reference that is cut

cut-front : (d i : List ℕ) → take (length d) (d ++ 47 ∷ i) ≡ d
cut-front [] i = refl
cut-front (o ∷ d) i = ap (λ l. o ∷ l) (cut-front d i)

cut-behind : (d i : List ℕ) → drop (suc (length d)) (d ++ 47 ∷ i) ≡ i
cut-behind [] i = refl
cut-behind (o ∷ d) i = cut-behind d i

cut-octet : (d i : List ℕ) (o : ℕ) → get_or (d ++ 47 ∷ i) (length d) o ≡ 47
cut-octet [] i o = refl
cut-octet (x ∷ d) i o = cut-octet d i o

joined-again : (r : List ℕ) (at : ℕ) (o : ℕ) → at < length r → take at r ++ get_or r at o ∷ drop (suc at) r ≡ r
joined-again [] at o h = absurd (omega (arith, h))
joined-again (x ∷ r) zero o h = refl
joined-again (x ∷ r) (suc at) o h = ap (λ l. x ∷ l) (joined-again r at o (omega (arith, h)))

front-octets : (r : List ℕ) (at : ℕ) → at < length r → length (take at r) ≡ at
front-octets [] at h = absurd (omega (arith, h))
front-octets (x ∷ r) zero h = refl
front-octets (x ∷ r) (suc at) h = ap suc (front-octets r at (omega (arith, h)))

-- at a `/`: the node is of that domain and that item
named-is-cut : (r : List ℕ) (at o : ℕ) → at < length r → get_or r at o ≡ 47 → (n : Node) → bytes_eq (take at r) n.domain && bytes_eq (drop (suc at) r) n.item ≡ is_cut r at n
named-is-cut r at o h e n = both-ways _ _
    (λ t. let w = both _ _ t in let d : take at r ≡ n.domain = octets_same _ _ w.0 in let i : drop (suc at) r ≡ n.item = octets_same _ _ w.1 in
    ap₂ (λ a b. a && b) (equal-number (length n.domain) at (ap length (sym d) ∙ front-octets r at h))
    (octets_equal r (reference_of n.domain n.item) (sym (joined-again r at o h) ∙ (ap (λ x. take at r ++ x ∷ drop (suc at) r) e ∙ ap₂ reference_of d i))))
    (λ t. let w = both _ _ t in let l : length n.domain ≡ at = same-of _ _ w.0 in let is : r ≡ reference_of n.domain n.item = octets_same _ _ w.1 in
    ap₂ (λ a b. a && b) (octets_equal (take at r) n.domain (ap₂ take (sym l) is ∙ cut-front n.domain n.item)) (octets_equal (drop (suc at) r) n.item (ap₂ (λ a x. drop (suc a) x) (sym l) is ∙ cut-behind n.domain n.item)))

pub found-at-cut : (r : List ℕ) (at o : ℕ) (ns : List Node) → at < length r → get_or r at o ≡ 47 → node_named ns (take at r) (drop (suc at) r) ≡ position (is_cut r at) ns
found-at-cut r at o ns h e = same-first (λ (n : Node). bytes_eq (take at r) n.domain && bytes_eq (drop (suc at) r) n.item) (is_cut r at) ns (named-is-cut r at o h e)

-- elsewhere there is none
pub none-at-cut : (r : List ℕ) (at o : ℕ) (ns : List Node) → (get_or r at o ≡ 47 → ⊥) → position (is_cut r at) ns ≡ None
none-at-cut r at o ns h = none-first (is_cut r at) ns (λ n. by n (is_cut r at n) refl)
  where
    by : (n : Node) (b : Bool) → is_cut r at n ≡ b → b ≡ false
    by n false e = refl
    by n true e = let w = both _ _ e in let l : length n.domain ≡ at = same-of _ _ w.0 in let is : r ≡ reference_of n.domain n.item = octets_same _ _ w.1 in
        absurd (h (ap₂ (λ x k. get_or x k o) is (sym l) ∙ cut-octet n.domain n.item o))

-- ---- cut at one place after the other

not-below : (m : ℕ) → nat_lt m 0 ≡ false
not-below m = grind (arith, nat_tests)

pub first-none : (r : List ℕ) (ns : List Node) → position (is_cut_below r 0) ns ≡ None
first-none r ns = none-first (is_cut_below r 0) ns (λ n. ap (λ b. b && bytes_eq r (reference_of n.domain n.item)) (not-below (length n.domain)))

further : (m at : ℕ) (b : Bool) → nat_lt m (at + 1) && b ≡ nat_lt m at && b || (m == at) && b
further m at true = grind (arith, nat_tests)
further m at false = grind (arith, nat_tests)

pub first-next : (r : List ℕ) (at : ℕ) (ns : List Node) → position (is_cut_below r (at + 1)) ns ≡ least (position (is_cut_below r at) ns) (position (is_cut r at) ns)
first-next r at ns = same-first (is_cut_below r (at + 1)) (λ (n : Node). is_cut_below r at n || is_cut r at n) ns (λ n. further (length n.domain) at (bytes_eq r (reference_of n.domain n.item))) ∙ either-first (is_cut_below r at) (is_cut r at) ns

pub first-of-all : (r : List ℕ) (ns : List Node) → position (is_cut_below r (length r)) ns ≡ position (λ (n : Node). bytes_eq r (reference_of n.domain n.item)) ns
first-of-all r ns = same-first (is_cut_below r (length r)) (λ (n : Node). bytes_eq r (reference_of n.domain n.item)) ns (λ n. both-ways _ _
    (λ t. (both _ _ t).1)
    (λ t. ap₂ (λ a b. a && b) (is-below (length n.domain) (length r) (omega (arith, ap length (octets_same r (reference_of n.domain n.item) t), length-append n.domain (47 ∷ n.item)))) t))
  where
    is-below : (a b : ℕ) → a < b → nat_lt a b ≡ true
    is-below a b h = grind (arith, nat_tests, h)
