-- The items of a tree of names: no two nodes have the same.
use Rattle.std.proofs.Common.{◌≡◌, ℕ, zero, suc, ◌+◌, ◌<◌, ◌==◌, Bool, true, false, not, ◌&&◌, ◌||◌, List, [], ◌∷◌, ◌++◌, map, flat_map, filter, fold, length, take, get_or, position, Some, refl, sym, ap, ap₂, ◌∙◌, true≢false, arith, append_assoc, append-nil, length-append, if◌then◌else◌}
use Rattle.std.specs.List.{list_any, before_first, prefix_len}
use Rattle.std.specs.Str.{bytes_eq}
use Rattle.std.specs.Cmp.Lexicographic.{bytes_decides}
use Rattle.std.proofs.lemmas.Bool.Decides.{nat_tests}
use Rattle.std.proofs.lemmas.List.{append_cancel_left}
use Rattle.list_laws.proofs.Among.{Each, each-both, heads, tails}
use Rattle.list_laws.proofs.Distinct.{Absent, Distinct}
use Rattle.list_laws.proofs.Truths.{or-left, or-right}
use Rattle.list_laws.proofs.Places.{get_at}
use Rattle.sv_base.specs.declared.config.Config.{Config}
use Rattle.bay_model.specs.Model.{Node}
use Rattle.bay_model.specs.Generated.{Named}
use Rattle.bay_model.specs.NameTree.{Forest, nothing, named, first_name, is_itself, below, with_name, first_names, side_by_side, role_of, own_type, grown, longest, tree_of}
use Rattle.bay_model.specs.Places.{Place, places, node_at}
use Rattle.bay_model.specs.NamedLines.{domains, names_in}
use Rattle.bay_model.specs.Named.{nodes, places_in, configured_model}
use Rattle.bay_model.specs.Lookups.{node_of}
use Rattle.object_model.specs.Tables.{node_named}
use Rattle.name_tree.proofs.GroupLaws.{distinct}
use Rattle.name_tree.proofs.ResolveLaws.{distinct-domains}
use Rattle.object_model.proofs.ApartLaws.{each-map, each-more, Unlike, Apart, apart-both, first_place}
use Rattle.std.proofs.lemmas.Bool.{and_right}

-- ---- names without `$`

abbrev IsPlain : List ℕ → Type 0
IsPlain n = list_any (λ o. o == 36) n ≡ false

before-plain : (item : List ℕ) → IsPlain (before_first (λ o. o == 36) item)
before-plain [] = refl
before-plain (o ∷ os) = by (o == 36) refl (before-plain os)
  where
    by : (b : Bool) → (o == 36) ≡ b → IsPlain (before_first (λ o. o == 36) os) → IsPlain (before_first (λ o. o == 36) (o ∷ os))
    by true e h = rw e refl
    by false e h = let k : ℕ = prefix_len (λ x. not (x == 36)) os in let next : 1 + k ≡ suc k = omega arith in
        rw e (ap (λ m. list_any (λ o. o == 36) (take m (o ∷ os))) next ∙ (ap (λ b. b || list_any (λ o. o == 36) (take k os)) e ∙ h))

plain-with : (acc : List (List ℕ)) (n : List ℕ) → Each IsPlain acc → IsPlain n → Each IsPlain (with_name acc n)
plain-with acc n a h = by (list_any (bytes_eq n) acc)
  where
    by : (b : Bool) → Each IsPlain (if b then acc else acc ++ n ∷ [])
    by true = a
    by false = each-both IsPlain acc (n ∷ []) a (h, tt)

plain-fold : (acc : List (List ℕ)) (ns : List Named) → Each IsPlain acc → Each IsPlain (fold with_name acc (map first_name ns))
plain-fold acc [] a = a
plain-fold acc (n ∷ ns) a = plain-fold (with_name acc (first_name n)) ns (plain-with acc (first_name n) a (before-plain n.item))

-- ---- a tree in which each name stands once on its level

abbrev IsOther : List ℕ → Forest → Type 0
IsOther n nothing = Unit {0}
IsOther n (named m r k parts others) = (bytes_eq m n ≡ false) × IsOther n others

abbrev IsSound : Forest → Type 0
IsSound nothing = Unit {0}
IsSound (named n r k parts others) = (IsPlain n × IsOther n others) × (IsSound parts × IsSound others)

abbrev with_one : ℕ → List Named → List ℕ → Forest → Forest
with_one l ns name others = named name (role_of (below name ns)) (own_type (below name ns)) (grown l (below name ns)) others

others-side : (l : ℕ) (ns : List Named) (n : List ℕ) (ms : List (List ℕ)) → Absent n ms → IsOther n (side_by_side (with_one l ns) ms)
others-side l ns n [] a = tt
others-side l ns n (m ∷ ms) a = (a.0, others-side l ns n ms a.1)

sound-grown : (levels : ℕ) (ns : List Named) → IsSound (grown levels ns)
sound-grown zero ns = tt
sound-grown (suc l) ns = go (λ m. sound-grown l (below m ns)) (first_names ns) (distinct ns) (plain-fold [] (filter (λ n. not (is_itself n)) ns) tt)
  where
    go : ((m : List ℕ) → IsSound (grown l (below m ns))) → (ms : List (List ℕ)) → Distinct ms → Each IsPlain ms → IsSound (side_by_side (with_one l ns) ms)
    go deeper [] d p = tt
    go deeper (m ∷ ms) d p = ((p.0, others-side l ns m ms d.0), (deeper m, go deeper ms d.1 p.1))

-- ---- what an item begins with

abbrev IsTail : List ℕ → Type 0
IsTail [] = Unit {0}
IsTail (o ∷ os) = o ≡ 36

-- a name after what stands before it, and at most further names
abbrev Starts : List ℕ → List ℕ → List ℕ → Type 0
Starts before n item = (t : List ℕ) × IsTail t × (item ≡ before ++ (n ++ t))

marked : (o : ℕ) (b : Bool) → o ≡ 36 → (o == 36) || b ≡ false → ⊥
marked o b e h = let is : (o == 36) ≡ true = grind (arith, nat_tests, e) in true≢false (sym is ∙ or-left (o == 36) b h)

stem : (m n s t : List ℕ) → IsPlain m → IsPlain n → IsTail s → IsTail t → m ++ s ≡ n ++ t → m ≡ n
stem [] [] s t a b u v e = refl
stem [] (o ∷ os) [] t a b u v e = absurd cc
stem [] (o ∷ os) (p ∷ s) t a b u v e = absurd (marked o (list_any (λ o. o == 36) os) (sym (heads p o s (os ++ t) e) ∙ u) b)
stem (o ∷ os) [] s [] a b u v e = absurd cc
stem (o ∷ os) [] s (p ∷ t) a b u v e = absurd (marked o (list_any (λ o. o == 36) os) (heads o p (os ++ s) t e ∙ v) a)
stem (o ∷ os) (p ∷ ps) s t a b u v e = ap₂ (λ x xs. x ∷ xs) (heads o p (os ++ s) (ps ++ t) e)
    (stem os ps s t (or-right (o == 36) (list_any (λ o. o == 36) os) a) (or-right (p == 36) (list_any (λ o. o == 36) ps) b) u v (tails o p (os ++ s) (ps ++ t) e))

other-items : (before m n x y : List ℕ) → IsPlain m → IsPlain n → bytes_eq m n ≡ false → Starts before m x → Starts before n y → bytes_eq x y ≡ false
other-items before m n x y a b h s t = by (bytes_eq x y) refl
  where
    by : (r : Bool) → bytes_eq x y ≡ r → r ≡ false
    by false e = refl
    by true e = absurd (true≢false (sym ((bytes_decides m n).1 (stem m n s.0 t.0 a b s.1 t.1
        (append_cancel_left before (m ++ s.0) (n ++ t.0) (sym s.2 ∙ ((bytes_decides x y).0 e ∙ t.2))))) ∙ h))

-- ---- the items of the places

begins : (front : List ℕ) (f : Forest) → Each (λ (p : Place). (u : List ℕ) × (p.item ≡ front ++ u)) (places front f)
begins front nothing = tt
begins front (named n r k parts others) = (
  (n, refl),
  each-both (λ (p : Place). (u : List ℕ) × (p.item ≡ front ++ u)) (places (front ++ n ++ 36 ∷ []) parts) (places front others)
      (each-more (λ (p : Place). (u : List ℕ) × (p.item ≡ (front ++ n ++ 36 ∷ []) ++ u)) (λ (p : Place). (u : List ℕ) × (p.item ≡ front ++ u)) (places (front ++ n ++ 36 ∷ []) parts)
      (λ p h. (n ++ 36 ∷ h.0, h.1 ∙ (append_assoc (front ++ n) (36 ∷ []) h.0 ∙ append_assoc front n (36 ∷ h.0)))) (begins (front ++ n ++ 36 ∷ []) parts))
      (begins front others),
)

own-starts : (before n : List ℕ) → Starts before n (before ++ n)
own-starts before n = ([], tt, ap (λ x. before ++ x) (sym (append-nil n)))

parts-start : (before n : List ℕ) (f : Forest) → Each (λ (p : Place). Starts before n p.item) (places (before ++ n ++ 36 ∷ []) f)
parts-start before n f = each-more (λ (p : Place). (u : List ℕ) × (p.item ≡ (before ++ n ++ 36 ∷ []) ++ u)) (λ (p : Place). Starts before n p.item) (places (before ++ n ++ 36 ∷ []) f)
    (λ p h. (36 ∷ h.0, refl, h.1 ∙ (append_assoc (before ++ n) (36 ∷ []) h.0 ∙ append_assoc before n (36 ∷ h.0)))) (begins (before ++ n ++ 36 ∷ []) f)

others-differ : (before : List ℕ) (f : Forest) (n y : List ℕ) → IsSound f → IsPlain n → IsOther n f → Starts before n y → Each (λ (p : Place). bytes_eq p.item y ≡ false) (places before f)
others-differ before nothing n y s p o t = tt
others-differ before (named m r k parts others) n y s p o t = (
  other-items before m n (before ++ m) y s.0.0 p o.0 (own-starts before m) t,
  each-both (λ (p : Place). bytes_eq p.item y ≡ false) (places (before ++ m ++ 36 ∷ []) parts) (places before others)
      (each-more (λ (p : Place). Starts before m p.item) (λ (p : Place). bytes_eq p.item y ≡ false) (places (before ++ m ++ 36 ∷ []) parts) (λ q h. other-items before m n q.item y s.0.0 p o.0 h t) (parts-start before m parts))
      (others-differ before others n y s.1.1 p o.1 t),
)

longer : (before n x u : List ℕ) → x ≡ (before ++ n ++ 36 ∷ []) ++ u → bytes_eq x (before ++ n) ≡ false
longer before n x u e = by (bytes_eq x (before ++ n)) refl
  where
    by : (r : Bool) → bytes_eq x (before ++ n) ≡ r → r ≡ false
    by false q = refl
    by true q = absurd (omega (arith, ap length (sym e ∙ (bytes_decides x (before ++ n)).0 q), length-append (before ++ n ++ 36 ∷ []) u, length-append (before ++ n) (36 ∷ [])))

abbrev same_item : Place → Place → Bool
same_item p q = bytes_eq p.item q.item

items-apart : (before : List ℕ) (f : Forest) → IsSound f → Apart same_item (places before f)
items-apart before nothing s = tt
items-apart before (named n r k parts others) s =
    let front : List ℕ = before ++ n ++ 36 ∷ [] in (
      each-both (λ (p : Place). bytes_eq p.item (before ++ n) ≡ false) (places front parts) (places before others)
          (each-more (λ (p : Place). (u : List ℕ) × (p.item ≡ front ++ u)) (λ (p : Place). bytes_eq p.item (before ++ n) ≡ false) (places front parts) (λ p h. longer before n p.item h.0 h.1) (begins front parts))
          (others-differ before others n (before ++ n) s.1.1 s.0.0 s.0.1 (own-starts before n)),
      apart-both same_item (places front parts) (places before others) (items-apart front parts s.1.0) (items-apart before others s.1.1)
          (each-more (λ (p : Place). Starts before n p.item) (λ (p : Place). Unlike same_item p (places before others)) (places front parts)
          (λ q h. others-differ before others n q.item s.1.1 s.0.0 s.0.1 h) (parts-start before n parts)),
    )

-- ---- the nodes of the domains

abbrev same_name : Node → Node → Bool
same_name a b = bytes_eq a.domain b.domain && bytes_eq a.item b.item

in-domain : (d : List ℕ) (ps : List Place) → Apart same_item ps → Apart same_name (map (node_at d) ps)
in-domain d [] a = tt
in-domain d (p ∷ ps) a = (
  each-map (λ (x : Node). same_name x (node_at d p) ≡ false) (node_at d) ps
      (each-more (λ (q : Place). same_item q p ≡ false) (λ (q : Place). same_name (node_at d q) (node_at d p) ≡ false) ps (λ q h. and_right (bytes_eq d d) (bytes_eq q.item p.item) h) a.0),
  in-domain d ps a.1,
)

other-domain : (d e : List ℕ) (x : Node) (ps : List Place) → bytes_eq e d ≡ false → x.domain ≡ d → Each (λ (y : Node). same_name y x ≡ false) (map (node_at e) ps)
other-domain d e x [] h i = tt
other-domain d e x (p ∷ ps) h i = (ap (λ b. b && bytes_eq p.item x.item) (ap (bytes_eq e) i ∙ h), other-domain d e x ps h i)

module _ (places_of : List ℕ → List Place) (apart : (d : List ℕ) → Apart same_item (places_of d)) where
  abbrev all_nodes : List (List ℕ) → List Node
  all_nodes ds = flat_map (λ d. map (node_at d) (places_of d)) ds

  absent-nodes : (d : List ℕ) (x : Node) (ds : List (List ℕ)) → Absent d ds → x.domain ≡ d → Unlike same_name x (all_nodes ds)
  absent-nodes d x [] a i = tt
  absent-nodes d x (e ∷ es) a i = each-both (λ (y : Node). same_name y x ≡ false) (map (node_at e) (places_of e)) (all_nodes es) (other-domain d e x (places_of e) a.0 i) (absent-nodes d x es a.1 i)

  of-domain : (d : List ℕ) (ps : List Place) (ds : List (List ℕ)) → Absent d ds → Each (λ x. Unlike same_name x (all_nodes ds)) (map (node_at d) ps)
  of-domain d [] ds a = tt
  of-domain d (p ∷ ps) ds a = (absent-nodes d (node_at d p) ds a refl, of-domain d ps ds a)

  nodes-apart : (ds : List (List ℕ)) → Distinct ds → Apart same_name (all_nodes ds)
  nodes-apart [] u = tt
  nodes-apart (d ∷ ds) u = apart-both same_name (map (node_at d) (places_of d)) (all_nodes ds) (in-domain d (places_of d) (apart d)) (nodes-apart ds u.1) (of-domain d (places_of d) ds u.0)

same-self : (x : Node) → same_name x x ≡ true
same-self x = ap (λ b. b && bytes_eq x.item x.item) ((bytes_decides x.domain x.domain).1 refl) ∙ (bytes_decides x.item x.item).1 refl

pub found : (c : Config) (n : ℕ) → n < length (nodes c) → node_named (nodes c) (node_of (configured_model c) n).domain (node_of (configured_model c) n).item ≡ Some n
found c n h = let d : Node = node_of (configured_model c) n in let is : d ≡ get_or (nodes c) n d = get_at (nodes c) n _ d h in
    ap (λ (x : Node). position (same_name x) (nodes c)) is
    ∙ first_place same_name (nodes c) n d same-self (nodes-apart (places_in c) (λ domain. items-apart [] (tree_of (names_in c domain)) (sound-grown (suc (longest (names_in c domain))) (names_in c domain))) (domains c) (distinct-domains [] c.nodes tt)) h
