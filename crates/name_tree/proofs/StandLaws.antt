-- The leaves of all nodes in one row.
use Rattle.std.proofs.Common.{◌≡◌, ℕ, ◌+◌, ◌<◌, List, [], ◌∷◌, ◌++◌, length, take, get_or, refl, sym, ap, ◌∙◌, append_assoc, append-nil, arith, length-append}
use Rattle.std.proofs.lemmas.List.{take_more}
use Rattle.name_tree.specs.declared.growth.Spot.{Spot}
use Rattle.name_tree.specs.declared.stands.Stand.{Stand}
use Rattle.name_leaves.specs.declared.leaves.Leaf.{Leaf}
use Rattle.name_tree.specs.Stands.{option_list, owns, stands_from}

pub owns-append : (as_ bs : List Spot) → owns (as_ ++ bs) ≡ owns as_ ++ owns bs
owns-append [] bs = refl
owns-append (a ∷ as_) bs = ap (λ l. option_list a.own ++ l) (owns-append as_ bs) ∙ sym (append_assoc (option_list a.own) (owns as_) (owns bs))

abbrev stand_at : ℕ → Spot → Stand
stand_at n s = record { what = s.what; first = n; end = n + s.leaves }

pub stands-append : (n : ℕ) (as_ bs : List Spot) → stands_from n (as_ ++ bs) ≡ stands_from n as_ ++ stands_from (n + length (owns as_)) bs
stands-append n [] bs = ap (λ m. stands_from m bs) (omega arith)
stands-append n (a ∷ as_) bs = ap (λ l. stand_at n a ∷ l) (stands-append (n + length (option_list a.own)) as_ bs ∙ ap (λ m. stands_from (n + length (option_list a.own)) as_ ++ stands_from m bs) (omega (arith, length-append (option_list a.own) (owns as_))))

-- what is added for nodes
pub record AreAdded (old new : List Leaf) (before after : List Stand) (spots : List Spot) : Type 0 where
  pub leaves : new ≡ old ++ owns spots
  pub stands : after ≡ before ++ stands_from (length old) spots

pub added-none : (old : List Leaf) (before : List Stand) → AreAdded old old before before []
added-none old before = record { leaves = sym (append-nil old); stands = sym (append-nil before) }

pub added-more : (old now new : List Leaf) (before mid after : List Stand) (spots : List Spot) (i : ℕ) (s : Spot) → i < length spots → s ≡ get_or spots i s → AreAdded old now before mid (take i spots)
    → new ≡ now ++ option_list s.own → after ≡ mid ++ stand_at (length now) s ∷ [] → AreAdded old new before after (take (i + 1) spots)
added-more old now new before mid after spots i s h e a l m = let next : take (i + 1) spots ≡ take i spots ++ s ∷ [] = take_more spots i s h ∙ ap (λ x. take i spots ++ x ∷ []) (sym e) in record {
  leaves = l ∙ (ap (λ x. x ++ option_list s.own) a.leaves ∙ (append_assoc old (owns (take i spots)) (option_list s.own) ∙ (ap (λ x. old ++ (owns (take i spots) ++ x)) (sym (append-nil (option_list s.own)))
      ∙ sym (ap (λ x. old ++ owns x) next ∙ ap (λ x. old ++ x) (owns-append (take i spots) (s ∷ []))))));
  stands = m ∙ (ap (λ x. x ++ stand_at (length now) s ∷ []) a.stands ∙ (append_assoc before (stands_from (length old) (take i spots)) (stand_at (length now) s ∷ [])
      ∙ (ap (λ n. before ++ (stands_from (length old) (take i spots) ++ stand_at n s ∷ [])) (ap length a.leaves ∙ length-append old (owns (take i spots)))
      ∙ sym (ap (λ x. before ++ stands_from (length old) x) next ∙ ap (λ x. before ++ x) (stands-append (length old) (take i spots) (s ∷ []))))));
}
