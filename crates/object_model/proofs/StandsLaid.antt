-- The leaves of a node are those that its tree has.
use Rattle.std.proofs.Common.{◌≡◌, ℕ, zero, suc, ◌+◌, ◌-◌, ◌<◌, ◌≤◌, List, [], ◌∷◌, ◌++◌, map, flat_map, length, take, drop, get_or, subst, refl, sym, ap, ◌∙◌, append_assoc, arith, length-append}
use Rattle.std.specs.Option.{option_map}
use Rattle.std.proofs.lemmas.List.{map-append, length-map, get_or_default}
use Rattle.sv_base.specs.declared.config.Config.{Config}
use Rattle.bay_model.specs.Model.{Node, Role, Tree, Trees, single, selecting, calling, several}
use Rattle.bay_model.specs.NameTree.{Forest, nothing, named, tree_of}
use Rattle.bay_model.specs.Places.{Place, places, trees, tree_with}
use Rattle.bay_model.specs.Lookups.{node_of}
use Rattle.bay_model.specs.NamedLines.{domains, names_in}
use Rattle.bay_model.specs.Named.{configured_model, nodes}
use Rattle.name_tree.specs.declared.growth.Spot.{Spot}
use Rattle.name_tree.specs.declared.stands.Stand.{Stand}
use Rattle.name_leaves.specs.declared.leaves.Leaf.{Leaf as CodeLeaf}
use Rattle.name_leaves.specs.Seen.{role_seen}
use Rattle.name_tree.specs.Grown.{spot}
use Rattle.name_leaves.specs.Leaves.{leaves, leaves_side, leaf_code, leaf_seen}
use Rattle.name_leaves.proofs.LeafLaws.{role_there, leaves_there}
use Rattle.name_tree.specs.Leaves.{own}
use Rattle.name_tree.specs.Stands.{option_list, owns, stands_from, all_leaves, all_stands}
use Rattle.list_laws.proofs.Places.{same_at}
use Rattle.name_tree.proofs.StandLaws.{owns-append}
use Rattle.name_tree.proofs.AttrLaws.{spots-places}
use Rattle.object_model.proofs.TableLaws.{all_spots, all_places, no_place, places-nodes, count-spots}

abbrev own_list : Tree → List CodeLeaf
own_list t = option_list (option_map leaf_code (own t))

abbrev coded : Trees → List CodeLeaf
coded ts = map leaf_code (leaves_side ts)

-- a name's own leaf and the leaves of its parts
own-parts : (r : Role) (f : Forest) → own_list (tree_with r (trees f)) ++ coded (trees f) ≡ map leaf_code (leaves (tree_with r (trees f)))
own-parts (single l) nothing = refl
own-parts (selecting k) nothing = refl
own-parts (calling k call) nothing = refl
own-parts several nothing = refl
own-parts (single l) (named n r k ps os) = refl
own-parts (selecting j) (named n r k ps os) = refl
own-parts (calling j call) (named n r k ps os) = refl
own-parts several (named n r k ps os) = refl

-- the leaves of nodes in their order are those of the tree in its order
owns-places : (before : List ℕ) (f : Forest) → owns (map spot (places before f)) ≡ coded (trees f)
owns-places before nothing = refl
owns-places before (named m r k parts others) =
    let t : Tree = tree_with r (trees parts) in
    let a : List Place = places (before ++ m ++ 36 ∷ []) parts in
    let b : List Place = places before others in
    ap (λ l. own_list t ++ owns l) (map-append spot a b)
    ∙ (ap (λ l. own_list t ++ l) (owns-append (map spot a) (map spot b))
    ∙ (ap (λ l. own_list t ++ (l ++ owns (map spot b))) (owns-places (before ++ m ++ 36 ∷ []) parts)
    ∙ (ap (λ l. own_list t ++ (coded (trees parts) ++ l)) (owns-places before others)
    ∙ (sym (append_assoc (own_list t) (coded (trees parts)) (coded (trees others)))
    ∙ (ap (λ l. l ++ coded (trees others)) (own-parts r parts)
    ∙ sym (map-append leaf_code (leaves t) (leaves_side (trees others))))))))

first-of : {X : Type 0} (mid post : List X) → take (length mid) (mid ++ post) ≡ mid
first-of [] post = refl
first-of (x ∷ mid) post = ap (λ l. x ∷ l) (first-of mid post)

slice-mid : {X : Type 0} (pre mid post : List X) → take (length mid) (drop (length pre) (pre ++ (mid ++ post))) ≡ mid
slice-mid [] mid post = first-of mid post
slice-mid (x ∷ pre) mid post = slice-mid pre mid post

-- the leaves of these nodes, the first of them at place n of the row
abbrev AllAt : List CodeLeaf → ℕ → List Place → Type 0
AllAt flat n [] = Unit {0}
AllAt flat n (p ∷ ps) = ((take (length (leaves p.tree)) (drop n flat) ≡ map leaf_code (leaves p.tree)) × (n + length (leaves p.tree) ≤ length flat)) × AllAt flat (n + length (own_list p.tree)) ps

all-append : (flat : List CodeLeaf) (n : ℕ) (as_ bs : List Place) → AllAt flat n as_ → AllAt flat (n + length (owns (map spot as_))) bs → AllAt flat n (as_ ++ bs)
all-append flat n [] bs a b = subst (λ k. AllAt flat k bs) (omega arith) b
all-append flat n (p ∷ ps) bs a b = (
  a.0,
  all-append flat (n + length (own_list p.tree)) ps bs a.1
      (subst (λ k. AllAt flat k bs) (omega (arith, length-append (own_list p.tree) (owns (map spot ps)))) b),
)

laid : (flat : List CodeLeaf) (before : List ℕ) (f : Forest) (pre post : List CodeLeaf) → flat ≡ pre ++ (coded (trees f) ++ post) → AllAt flat (length pre) (places before f)
laid flat before nothing pre post e = tt
laid flat before (named m r k parts others) pre post e =
    let t : Tree = tree_with r (trees parts) in
    let all : List CodeLeaf = map leaf_code (leaves t) in
    let rest : List CodeLeaf = coded (trees others) ++ post in
    let front : List ℕ = before ++ m ++ 36 ∷ [] in
    let is : flat ≡ pre ++ (all ++ rest) = e ∙ (ap (λ x. pre ++ (x ++ post)) (map-append leaf_code (leaves t) (leaves_side (trees others))) ∙ ap (λ x. pre ++ x) (append_assoc all (coded (trees others)) post)) in
    let long : length all ≡ length (leaves t) = length-map (leaves t) leaf_code in
    let size : length flat ≡ length pre + (length all + length rest) = ap length is ∙ (length-append pre (all ++ rest) ∙ ap (λ n. length pre + n) (length-append all rest)) in
    let below : AllAt flat (length (pre ++ own_list t)) (places front parts) = laid flat front parts (pre ++ own_list t) rest (is ∙ (ap (λ x. pre ++ (x ++ rest)) (sym (own-parts r parts))
    ∙ (ap (λ x. pre ++ x) (append_assoc (own_list t) (coded (trees parts)) rest) ∙ sym (append_assoc pre (own_list t) (coded (trees parts) ++ rest))))) in
    let beside : AllAt flat (length (pre ++ all)) (places before others) = laid flat before others (pre ++ all) post (is ∙ sym (append_assoc pre all rest)) in
    let split : length (own_list t) + length (owns (map spot (places front parts))) ≡ length all = ap (λ l. length (own_list t) + length l) (owns-places front parts) ∙ (sym (length-append (own_list t) (coded (trees parts))) ∙ ap length (own-parts r parts)) in (
      (ap (λ x. take (length (leaves t)) (drop (length pre) x)) is ∙ (ap (λ n. take n (drop (length pre) (pre ++ (all ++ rest)))) (sym long) ∙ slice-mid pre all rest), omega (arith, size, long)),
      all-append flat (length pre + length (own_list t)) (places front parts) (places before others) (subst (λ n. AllAt flat n (places front parts)) (length-append pre (own_list t)) below)
          (subst (λ n. AllAt flat n (places before others)) (omega (arith, length-append pre all, split)) beside),
    )

-- domain by domain
module _ (tree_at : List ℕ → Forest) where
  abbrev of : List ℕ → List Place
  of d = places [] (tree_at d)

  abbrev spots_of : List ℕ → List Spot
  spots_of d = map spot (of d)

  pub laid-domains : (flat : List CodeLeaf) (ds : List (List ℕ)) (pre : List CodeLeaf) → flat ≡ pre ++ owns (flat_map spots_of ds) → AllAt flat (length pre) (flat_map of ds)
  laid-domains flat [] pre e = tt
  laid-domains flat (d ∷ ds) pre e =
      let here : List CodeLeaf = owns (spots_of d) in
      let rest : List CodeLeaf = owns (flat_map spots_of ds) in
      let is : flat ≡ pre ++ (here ++ rest) = e ∙ ap (λ x. pre ++ x) (owns-append (spots_of d) (flat_map spots_of ds)) in
      all-append flat (length pre) (of d) (flat_map of ds) (laid flat [] (tree_at d) pre rest (is ∙ ap (λ x. pre ++ (x ++ rest)) (owns-places [] (tree_at d))))
      (subst (λ n. AllAt flat n (flat_map of ds)) (length-append pre here) (laid-domains flat ds (pre ++ here) (is ∙ sym (append_assoc pre here rest))))

-- what stands at place n of these
record AtPlace (flat : List CodeLeaf) (s : Stand) (p : Place) : Type 0 where
  pub leaves : take (s.end - s.first) (drop s.first flat) ≡ map leaf_code (leaves p.tree)
  pub ordered : s.first ≤ s.end
  pub within : s.end ≤ length flat
  pub role : role_seen s.what ≡ p.role

at-place : (flat : List CodeLeaf) (k : ℕ) (ps : List Place) (n : ℕ) (s : Stand) (p : Place) → AllAt flat k ps → n < length ps → s ≡ get_or (stands_from k (map spot ps)) n s → AtPlace flat s (get_or ps n p)
at-place flat k [] n s p a h e = absurd (omega (arith, h))
at-place flat k (q ∷ ps) zero s p a h e = let first : s.first ≡ k = ap (λ (s : Stand). s.first) e in let end : s.end ≡ k + length (leaves q.tree) = ap (λ (s : Stand). s.end) e in record {
  leaves = ap (λ m. take m (drop s.first flat)) (omega (arith, first, end)) ∙ (ap (λ m. take (length (leaves q.tree)) (drop m flat)) first ∙ a.0.0);
  ordered = omega (arith, first, end);
  within = omega (arith, end, a.0.1);
  role = ap (λ (s : Stand). role_seen s.what) e ∙ role_there q.role;
}
at-place flat k (q ∷ ps) (suc n) s p a h e = at-place flat (k + length (own_list q.tree)) ps n s p a.1 (omega (arith, h)) e

-- what stands at node n of a configuration
pub record StandsAt (c : Config) (n : ℕ) (s : Stand) : Type 0 where
  pub leaves : map leaf_seen (take (s.end - s.first) (drop s.first (all_leaves c))) ≡ leaves (node_of (configured_model c) n).tree
  pub ordered : s.first ≤ s.end
  pub within : s.end ≤ length (all_leaves c)
  pub role : role_seen s.what ≡ (node_of (configured_model c) n).role

pub count-stands : (k : ℕ) (ss : List Spot) → length (stands_from k ss) ≡ length ss
count-stands k [] = refl
count-stands k (s ∷ ss) = ap suc (count-stands (k + length (option_list s.own)) ss)

pub stands-are : (c : Config) (n : ℕ) (s : Stand) → n < length (nodes c) → s ≡ get_or (all_stands c) n s → StandsAt c n s
stands-are c n s h e =
    let tree_at : List ℕ → Forest = λ d. tree_of (names_in c d) in
    let same : all_spots c ≡ map spot (all_places c) = spots-places c (domains c) in
    let lt : n < length (all_places c) = omega (arith, h, length-map (all_places c) spot, ap length same, count-spots c) in
    let at : AtPlace (all_leaves c) s (get_or (all_places c) n no_place) = at-place (all_leaves c) 0 (all_places c) n s no_place (laid-domains tree_at (all_leaves c) (domains c) [] refl) lt (e ∙ ap (λ l. get_or (stands_from 0 l) n s) same) in
    record {
      leaves = ap (map leaf_seen) at.leaves ∙ (leaves_there (leaves (get_or (all_places c) n no_place).tree)
          ∙ ap leaves (same_at (λ (p : Place). p.tree) (λ (n : Node). n.tree) (all_places c) (nodes c) n (get_or (all_places c) n no_place) no_place _ (places-nodes (λ p. p.tree) (λ (n : Node). n.tree) (λ d p. refl) c) h (get_or_default (all_places c) n no_place _ lt)));
      ordered = at.ordered;
      within = at.within;
      role = at.role ∙ same_at (λ (p : Place). p.role) (λ (n : Node). n.role) (all_places c) (nodes c) n (get_or (all_places c) n no_place) no_place _ (places-nodes (λ p. p.role) (λ (n : Node). n.role) (λ d p. refl) c) h (get_or_default (all_places c) n no_place _ lt);
    }

pub count-all-stands : (c : Config) → length (all_stands c) ≡ length (nodes c)
count-all-stands c = count-stands 0 (all_spots c) ∙ count-spots c

pub within-stands : (c known : Config) (ss : List Stand) (n : ℕ) → c ≡ known → ss ≡ all_stands c → n < length (nodes known) → n < length ss
within-stands c known ss n v e h = omega (arith, h, ap length e, ap (λ m. length (all_stands m)) v, count-all-stands known)

pub stands-read : (c known : Config) (ss : List Stand) (n : ℕ) (d : Stand) → c ≡ known → ss ≡ all_stands c → n < length (nodes known) → StandsAt known n (get_or ss n d)
stands-read c known ss n d v e h = let is : ss ≡ all_stands known = e ∙ ap all_stands v in
    stands-are known n (get_or ss n d) h (ap (λ l. get_or l n d) is ∙ get_or_default (all_stands known) n d (get_or ss n d) (omega (arith, h, count-all-stands known)))
