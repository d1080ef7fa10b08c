-- What one more group grows.
use Rattle.std.proofs.Common.{◌≡◌, ℕ, zero, suc, ◌+◌, ◌-◌, ◌<◌, ◌≤◌, ◌==◌, subst, take_all, Bool, true, false, ◌&&◌, if◌then◌else◌, List, [], ◌∷◌, ◌++◌, map, length, get_or, set, take, refl, sym, ap, ap₂, ◌∙◌, append_assoc, append-nil, arith, length-append}
use Rattle.std.proofs.lemmas.List.{map-append, take_more}
use Rattle.std.proofs.Math.Seq.{take-append_seam, set-append_seam}
use Rattle.sv_base.specs.declared.types.TypeOf.{TypeOf}
use Rattle.sv_base.specs.declared.types.Part1.{Part1}
use Rattle.sv_base.specs.declared.types.TypeOf.TheVariants as types
use Rattle.std.proofs.lemmas.Bool.Decides.{nat_tests}
use Rattle.sv_base.specs.Fields.{fields_of, parts_of, shape_of, type_of}
use Rattle.sv_base.proofs.FieldLaws.{type-shape, fields-parts}
use Rattle.bay_model.specs.Model as model
use Rattle.bay_model.specs.Generated.{Named}
use Rattle.bay_model.specs.NameTree.{longest, tree_of, nothing, named, is_itself, first_name, rest_of, role_of, own_type, grown, below, side_by_side, first_names}
use Rattle.bay_model.specs.Places.{Place, place, places, fields, attrs_in, are_data, type_with, attrs_of_role, is_data_role, trees, tree_with}
use Rattle.std.specs.Prelude.{Result, Ok, Err, OnOk}
use Rattle.std.specs.Option.{option_map}
use Rattle.name_leaves.specs.Leaves.{leaves, leaves_side, leaf_code}
use Rattle.name_tree.specs.Leaves.{own, leaves_with}
use Rattle.name_tree.proofs.LeafLaws.{own_tree, count_tree}
use Rattle.name_tree.specs.Groups.{Group, group_at, groups, put}
use Rattle.name_tree.proofs.GroupLaws.{groups-more}
use Rattle.name_tree.specs.Grown.{IsGrown, spot, spot_with, forest_of}
use Rattle.name_tree.specs.declared.growth.Grown.{Grown}

side : (l : ℕ) (ns : List Named) (names : List (List ℕ)) → side_by_side (λ name others. named name (role_of (below name ns)) (own_type (below name ns)) (grown l (below name ns)) others) names ≡ forest_of l (map (group_at ns) names)
side l ns [] = refl
side l ns (n ∷ names) = ap (λ o. named n (role_of (below n ns)) (own_type (below n ns)) (grown l (below n ns)) o) (side l ns names)

pub grown-groups : (levels : ℕ) (ns : List Named) → 0 < levels → grown levels ns ≡ forest_of (levels - 1) (groups ns)
grown-groups zero ns h = absurd (omega (arith, h))
grown-groups (suc l) ns h = side l ns (first_names ns) ∙ ap (λ n. forest_of n (groups ns)) (omega arith)

-- the node of a group, and the nodes of its parts
abbrev node : List ℕ → ℕ → Group → Place
node before l g = place (before ++ g.name) (role_of g.names) (own_type g.names) (grown l g.names)

abbrev parts_in : List ℕ → ℕ → Group → List Place
parts_in before l g = places (before ++ g.name ++ 36 ∷ []) (grown l g.names)

places-after : (before : List ℕ) (l : ℕ) (gs hs : List Group) → places before (forest_of l (gs ++ hs)) ≡ places before (forest_of l gs) ++ places before (forest_of l hs)
places-after before l [] hs = refl
places-after before l (g ∷ gs) hs = ap (λ ps. node before l g ∷ (parts_in before l g ++ ps)) (places-after before l gs hs)
    ∙ ap (λ ps. node before l g ∷ ps) (sym (append_assoc (parts_in before l g) (places before (forest_of l gs)) (places before (forest_of l hs))))

parts-more : (l : ℕ) (gs : List Group) (g : Group) → parts_of (fields (forest_of l (gs ++ g ∷ []))) ≡ parts_of (fields (forest_of l gs)) ++ record { name = g.name; kind = type_with (own_type g.names) (fields (grown l g.names)) } ∷ []
parts-more l [] g = ap (λ k. record { name = g.name; kind = k } ∷ []) (type-shape (type_with (own_type g.names) (fields (grown l g.names))))
parts-more l (h ∷ hs) g = ap (λ ps. record { name = h.name; kind = type_of (shape_of (type_with (own_type h.names) (fields (grown l h.names)))) } ∷ ps) (parts-more l hs g)

attrs-more : (l : ℕ) (gs : List Group) (g : Group) → length (attrs_in (forest_of l (gs ++ g ∷ []))) ≡ length (attrs_in (forest_of l gs)) + (length (attrs_of_role (role_of g.names)) + length (attrs_in (grown l g.names)))
attrs-more l [] g = omega (arith, ap length (append-nil (attrs_of_role (role_of g.names) ++ attrs_in (grown l g.names))), length-append (attrs_of_role (role_of g.names)) (attrs_in (grown l g.names)))
attrs-more l (h ∷ hs) g = omega (
  arith,
  attrs-more l hs g,
  length-append (attrs_of_role (role_of h.names) ++ attrs_in (grown l h.names)) (attrs_in (forest_of l (hs ++ g ∷ []))),
  length-append (attrs_of_role (role_of h.names) ++ attrs_in (grown l h.names)) (attrs_in (forest_of l hs)),
)

both : (a b : Bool) → a && b && true ≡ a && b
both true true = refl
both true false = refl
both false b = refl

regroup : (a b c d : Bool) → a && b && (c && d) ≡ (a && b && c) && d
regroup true true c d = refl
regroup true false c d = refl
regroup false b c d = refl

data-more : (l : ℕ) (gs : List Group) (g : Group) → are_data (forest_of l (gs ++ g ∷ [])) ≡ are_data (forest_of l gs) && (is_data_role (role_of g.names) && are_data (grown l g.names))
data-more l [] g = both (is_data_role (role_of g.names)) (are_data (grown l g.names))
data-more l (h ∷ hs) g = ap (λ b. is_data_role (role_of h.names) && are_data (grown l h.names) && b) (data-more l hs g)
    ∙ regroup (is_data_role (role_of h.names)) (are_data (grown l h.names)) (are_data (forest_of l hs)) (is_data_role (role_of g.names) && are_data (grown l g.names))

-- the leaves of a group in its tree
abbrev tree : ℕ → Group → model.Tree
tree l g = tree_with (role_of g.names) (trees (grown l g.names))

leaves-more : (l : ℕ) (gs : List Group) (g : Group) → length (leaves_side (trees (forest_of l (gs ++ g ∷ [])))) ≡ length (leaves_side (trees (forest_of l gs))) + length (leaves (tree l g))
leaves-more l [] g = ap length (append-nil (leaves (tree l g))) ∙ omega arith
leaves-more l (h ∷ hs) g = length-append (leaves (tree l h)) (leaves_side (trees (forest_of l (hs ++ g ∷ [])))) ∙ (ap (λ n. length (leaves (tree l h)) + n) (leaves-more l hs g)
    ∙ (omega arith ∙ ap (λ n. n + length (leaves (tree l g))) (sym (length-append (leaves (tree l h)) (leaves_side (trees (forest_of l hs)))))))

leaves-is : (l : ℕ) (g : Group) (b : Grown) → IsGrown b (grown l g.names) → leaves_with g (fields_of b.parts.items) b.leaves ≡ length (leaves (tree l g))
leaves-is l g b h = ap (λ fs. leaves_with g fs b.leaves) (ap fields_of h.parts ∙ fields-parts (fields (grown l g.names)))
    ∙ (ap (λ n. leaves_with g (fields (grown l g.names)) n) h.leaves ∙ count_tree (role_of g.names) (grown l g.names))

-- the code's node of a group whose parts have grown
pub spot-is : (before : List ℕ) (l : ℕ) (g : Group) (b : Grown) → IsGrown b (grown l g.names) → spot_with g (fields_of b.parts.items) b.attrs b.is_data b.leaves ≡ spot (node before l g)
spot-is before l g b h = ap (λ n. record (spot_with g (fields_of b.parts.items) b.attrs b.is_data b.leaves) { leaves = n }) (leaves-is l g b h)
    ∙ (ap (λ fs. record (spot_with g fs b.attrs b.is_data b.leaves) { leaves = length (leaves (tree l g)) }) (ap fields_of h.parts ∙ fields-parts (fields (grown l g.names)))
    ∙ (ap (λ o. record (spot_with g (fields (grown l g.names)) b.attrs b.is_data b.leaves) { leaves = length (leaves (tree l g)); own = option_map leaf_code o }) (own_tree (role_of g.names) (grown l g.names))
    ∙ (ap (λ as_. record (spot (node before l g)) { attrs = as_; is_data = is_data_role (role_of g.names) && b.is_data })
    (ap (λ n. length (attrs_of_role (role_of g.names)) + n) h.attrs ∙ sym (length-append (attrs_of_role (role_of g.names)) (attrs_in (grown l g.names))))
    ∙ ap (λ d. record (spot (node before l g)) { is_data = is_data_role (role_of g.names) && d }) h.is_data)))

-- what adding a group does
pub record Added (old new : Grown) (g : Group) (b : Grown) : Type 0 where
  pub parts : new.parts.items ≡ old.parts.items ++ record { name = g.name; kind = type_with (own_type g.names) (fields_of b.parts.items) } ∷ []
  pub attrs : new.attrs ≡ old.attrs + (length (attrs_of_role (role_of g.names)) + b.attrs)
  pub is_data : new.is_data ≡ old.is_data && (is_data_role (role_of g.names) && b.is_data)
  pub leaves : new.leaves ≡ old.leaves + leaves_with g (fields_of b.parts.items) b.leaves

abbrev next : (gs : List Group) (i : ℕ) (g : Group) → i < length gs → g ≡ get_or gs i g → take (i + 1) gs ≡ take i gs ++ g ∷ []
next gs i g h e = take_more gs i g h ∙ ap (λ x. take i gs ++ x ∷ []) (sym e)

-- what is seen of a group's node and of its parts'
module _ {X : Type 0} (of : Place → X) where
  -- one name, with what grows below it
  pub one-name : (before front : List ℕ) (l : ℕ) (g : Group) (old new : List X) (x : X) → front ≡ before ++ g.name ++ 36 ∷ [] → x ≡ of (node before l g) → new ≡ old ++ (x ∷ map of (places front (grown l g.names))) → new ≡ old ++ map of (places before (forest_of l (g ∷ [])))
  one-name before front l g old new x f o k = k ∙ (ap₂ (λ (y : X) fr. old ++ (y ∷ map of (places fr (grown l g.names)))) o f ∙ ap (λ ps. old ++ (of (node before l g) ∷ map of ps)) (sym (append-nil (parts_in before l g))))

  -- one name more
  pub nodes-more : (before path : List ℕ) (l : ℕ) (gs : List Group) (i : ℕ) (g h : Group) (start old new : List X) → i < length gs → g ≡ get_or gs i g → h ≡ g → path ≡ before
      → old ≡ start ++ map of (places before (forest_of l (take i gs))) → new ≡ old ++ map of (places path (forest_of l (h ∷ []))) → new ≡ start ++ map of (places before (forest_of l (take (i + 1) gs)))
  nodes-more before path l gs i g h start old new lt e s p o k =
      let done : List Place = places before (forest_of l (take i gs)) in
      let one : List Place = places before (forest_of l (g ∷ [])) in
      k ∙ (ap₂ (λ y (x : Group). old ++ map of (places y (forest_of l (x ∷ [])))) p s ∙ (ap (λ x. x ++ map of one) o
      ∙ (append_assoc start (map of done) (map of one)
      ∙ sym (ap (λ y. start ++ map of (places before (forest_of l y))) (next gs i g lt e)
      ∙ ap (λ y. start ++ y) (ap (map of) (places-after before l (take i gs) (g ∷ [])) ∙ map-append of done one)))))

  pub nodes-whole : (before : List ℕ) (levels : ℕ) (ns : List Named) (gs : List Group) (i : ℕ) (start all : List X) → 0 < levels → length gs ≤ i → gs ≡ groups ns → all ≡ start ++ map of (places before (forest_of (levels - 1) (take i gs))) → all ≡ start ++ map of (places before (grown levels ns))
  nodes-whole before levels ns gs i start all h l e p = p ∙ ap (λ f. start ++ map of (places before f)) (ap (forest_of (levels - 1)) (take_all i gs l ∙ e) ∙ sym (grown-groups levels ns h))

-- one more, and then others
pub one-and : {X : Type 0} (old mid new others : List X) (x : X) → mid ≡ old ++ x ∷ [] → new ≡ mid ++ others → new ≡ old ++ (x ∷ others)
one-and old mid new others x m n = n ∙ (ap (λ l. l ++ others) m ∙ append_assoc old (x ∷ []) others)

-- the same, the one being set after the others
pub set-and : {X : Type 0} (old mid now new others : List X) (y x : X) (place : ℕ) → place ≡ length old → mid ≡ old ++ y ∷ [] → now ≡ mid ++ others → new ≡ set now place x → new ≡ old ++ (x ∷ others)
set-and old mid now new others y x place p m n k = k ∙ (ap₂ (λ l (i : ℕ). set l i x) (one-and old mid now others y m n) p ∙ set-append_seam old y others x)

pub within-set : {X : Type 0} (old mid now others : List X) (y : X) (place : ℕ) → place ≡ length old → mid ≡ old ++ y ∷ [] → now ≡ mid ++ others → place < length now
within-set old mid now others y place p m n = omega (arith, p, ap length (one-and old mid now others y m n), length-append old (y ∷ others))

pub grown-after : (l : ℕ) (gs : List Group) (g : Group) (old new b : Grown) → IsGrown old (forest_of l gs) → IsGrown b (grown l g.names) → Added old new g b → IsGrown new (forest_of l (gs ++ g ∷ []))
grown-after l gs g old new b o p a = record {
  parts = a.parts ∙ (ap (λ fs. old.parts.items ++ record { name = g.name; kind = type_with (own_type g.names) fs } ∷ []) (ap fields_of p.parts ∙ fields-parts (fields (grown l g.names)))
      ∙ (ap (λ x. x ++ record { name = g.name; kind = type_with (own_type g.names) (fields (grown l g.names)) } ∷ []) o.parts ∙ sym (parts-more l gs g)));
  attrs = a.attrs ∙ (ap (λ x. old.attrs + (length (attrs_of_role (role_of g.names)) + x)) p.attrs ∙ (ap (λ x. x + (length (attrs_of_role (role_of g.names)) + length (attrs_in (grown l g.names)))) o.attrs ∙ sym (attrs-more l gs g)));
  is_data = a.is_data ∙ (ap (λ x. old.is_data && (is_data_role (role_of g.names) && x)) p.is_data ∙ (ap (λ x. x && (is_data_role (role_of g.names) && are_data (grown l g.names))) o.is_data ∙ sym (data-more l gs g)));
  leaves = a.leaves ∙ (ap (λ x. old.leaves + x) (leaves-is l g b p) ∙ (ap (λ x. x + length (leaves (tree l g))) o.leaves ∙ sym (leaves-more l gs g)));
}

pub grown-more : (l : ℕ) (gs : List Group) (i : ℕ) (g h : Group) (new : Grown) → i < length gs → g ≡ get_or gs i g → h ≡ g → IsGrown new (forest_of l (take i gs ++ h ∷ [])) → IsGrown new (forest_of l (take (i + 1) gs))
grown-more l gs i g h new lt e s p = subst (λ x. IsGrown new (forest_of l x)) (ap (λ (x : Group). take i gs ++ x ∷ []) s ∙ sym (next gs i g lt e)) p

-- the same names with more capacity
pub with-room : (old new : Grown) → new.parts.items ≡ old.parts.items → new.attrs ≡ old.attrs → new.is_data ≡ old.is_data → new.leaves ≡ old.leaves → IsGrown old nothing → IsGrown new nothing
with-room old new p a d l h = record { parts = p ∙ h.parts; attrs = a ∙ h.attrs; is_data = d ∙ h.is_data; leaves = l ∙ h.leaves }

-- what grows out of the only one that is named
grown-only : (levels : ℕ) (n : Named) → 0 < levels → is_itself n ≡ false → grown levels (n ∷ []) ≡ forest_of (levels - 1) (record { name = first_name n; names = rest_of n ∷ [] } ∷ [])
grown-only levels n h e = grown-groups levels (n ∷ []) h ∙ ap (forest_of (levels - 1)) (groups-more [] n ∙ ap (λ b. if b then [] else put [] (first_name n) (rest_of n)) e)

only : (ns : List Named) (n : Named) → 1 ≤ length ns → length ns < 2 → n ≡ get_or ns 0 n → ns ≡ n ∷ []
only [] n a b e = absurd (omega (arith, a))
only (m ∷ []) n a b e = ap (λ x. x ∷ []) (sym e)
only (m ∷ k ∷ ms) n a b e = absurd (omega (arith, b))

pub only-name : (levels : ℕ) (ns : List Named) (n : Named) (name : List ℕ) (rest : Named) → 0 < levels → 1 ≤ length ns → length ns < 2 → n ≡ get_or ns 0 n → is_itself n ≡ false → name ≡ first_name n → rest ≡ rest_of n
    → forest_of (levels - 1) (record { name = name; names = rest ∷ [] } ∷ []) ≡ grown levels ns
only-name levels ns n name rest h a b e i f r = ap₂ (λ x (y : Named). forest_of (levels - 1) (record { name = x; names = y ∷ [] } ∷ [])) f r ∙ sym (ap (grown levels) (only ns n a b e) ∙ grown-only levels n h i)

-- where all four hold
pub on-four : {A E P Q R S Z : Type 0} (r : Result A E) → (P → Q → R → S → Z) → OnOk r P → OnOk r Q → OnOk r R → OnOk r S → OnOk r Z
on-four (Ok x) f p q u v = f p q u v
on-four (Err e) f p q u v = p

-- a type with parts and one without
pub with_parts : (own : TypeOf) (ps : List Part1) → (length ps == 0) ≡ false → type_with own (fields_of ps) ≡ types.Struct (fields_of ps)
with_parts own [] h = absurd (grind (arith, nat_tests))
with_parts own (p ∷ ps) h = refl

pub without_parts : (own : TypeOf) (ps : List Part1) → (length ps == 0) ≡ true → type_with own (fields_of ps) ≡ own
without_parts own [] h = refl
without_parts own (p ∷ ps) h = absurd (grind (arith, nat_tests))

-- the path is what it was before a name was entered
pub back : (before path front after out name : List ℕ) (len : ℕ) → path ≡ before → front ≡ path ++ name ++ 36 ∷ [] → after ≡ front → len ≡ length before → out ≡ take len after → out ≡ before
back before path front after out name len p f a l o = o ∙ (ap (λ n. take n after) l ∙ (ap (take (length before)) (a ∙ (f ∙ (ap (λ x. x ++ name ++ 36 ∷ []) p ∙ append_assoc before name (36 ∷ [])))) ∙ take-append_seam before (name ++ 36 ∷ [])))

-- all groups
pub whole : (b : Grown) (levels : ℕ) (ns : List Named) (gs : List Group) (i : ℕ) → 0 < levels → length gs ≤ i → gs ≡ groups ns → IsGrown b (forest_of (levels - 1) (take i gs)) → IsGrown b (grown levels ns)
whole b levels ns gs i h l e p = subst (IsGrown b) (ap (forest_of (levels - 1)) (take_all i gs l ∙ e) ∙ sym (grown-groups levels ns h)) p

-- as many levels as the tree has
pub all-levels : (levels : ℕ) (ns ms most : List Named) → levels ≡ suc (longest most) → most ≡ ns → ms ≡ ns → places [] (grown levels ms) ≡ places [] (tree_of ns)
all-levels levels ns ms most e f g = ap (λ l. places [] (grown l ms)) (e ∙ ap (λ l. suc (longest l)) f) ∙ ap (λ l. places [] (grown (suc (longest ns)) l)) g
