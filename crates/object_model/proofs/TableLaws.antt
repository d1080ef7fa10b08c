-- The tables of a configuration beside the model of it.
use Rattle.std.proofs.Common.{◌≡◌, ℕ, zero, suc, ◌+◌, ◌<◌, ◌≤◌, Bool, List, [], ◌∷◌, ◌++◌, map, flat_map, length, get_or, Some, slice_get, refl, sym, ap, ap₂, ◌∙◌, arith}
use Rattle.std.proofs.lemmas.List.{get_or_default}
use Rattle.sv_base.specs.declared.types.TypeOf.{TypeOf}
use Rattle.sv_base.specs.declared.types.TypeOf.TheVariants as types
use Rattle.std.proofs.lemmas.List.{map-append, length-map}
use Rattle.sv_base.specs.declared.config.Config.{Config}
use Rattle.bay_model.specs.Model.{Node, several}
use Rattle.bay_model.specs.declared.tables.NodeRow.{NodeRow}
use Rattle.bay_model.specs.Lookups.{node_of}
use Rattle.sv_base.specs.declared.numbers.AttrId.{AttrId}
use Rattle.name_tree.specs.declared.growth.Spot.{Spot}
use Rattle.name_tree.proofs.NodeLaws.{length-rows, count-places}
use Rattle.bay_model.specs.NameTree.{nothing}
use Rattle.bay_model.specs.Places.{Place, place, node_at, may_be_member, largest}
use Rattle.bay_model.specs.NamedLines.{domains}
use Rattle.bay_model.specs.Named.{nodes, places_in, configured_model}
use Rattle.name_tree.specs.declared.directories.NodeName.{NodeName}
use Rattle.name_tree.specs.Grown.{items_of, spot}
use Rattle.name_tree.specs.Nodes.{attr_id, spots_in, names_at, names_from, node_names, row, rows_from, node_rows}
use Rattle.std.proofs.Common.{◌&&◌, nat_le, min}
use Rattle.std.proofs.lemmas.Bool.Decides.{nat_tests}
use Rattle.object_model.specs.Rows.{IsRowOf}
use Rattle.name_order.specs.Sorting.{name_at}
use Rattle.name_tree.specs.Directories.{domain_at, items_at}
use Rattle.object_model.specs.Tables.{node_types}
use Rattle.list_laws.proofs.Options.{some_is, not_some}
use Rattle.list_laws.proofs.Places.{same_at}

abbrev pub all_spots : Config → List Spot
all_spots c = flat_map (spots_in c) (domains c)

abbrev pub all_places : Config → List Place
all_places c = flat_map (places_in c) (domains c)

abbrev pub no_place : Place
no_place = place [] several types.Bool nothing

-- what is seen of each place and of its node, where it is the same
module _ {A : Type 0} (of_place : Place → A) (of_node : Node → A) (same : (d : List ℕ) (p : Place) → of_place p ≡ of_node (node_at d p)) where
  in_domain : (d : List ℕ) (ps : List Place) → map of_place ps ≡ map of_node (map (node_at d) ps)
  in_domain d [] = refl
  in_domain d (p ∷ ps) = let with : A → List A → List A = λ a as_. a ∷ as_ in ap₂ with (same d p) (in_domain d ps)

  in_domains : (places_of : List ℕ → List Place) (ds : List (List ℕ)) → map of_place (flat_map places_of ds) ≡ map of_node (flat_map (λ d. map (node_at d) (places_of d)) ds)
  in_domains places_of [] = refl
  in_domains places_of (d ∷ ds) = map-append of_place (places_of d) (flat_map places_of ds) ∙ (ap₂ (λ a b. a ++ b) (in_domain d (places_of d)) (in_domains places_of ds)
      ∙ sym (map-append of_node (map (node_at d) (places_of d)) (flat_map (λ d. map (node_at d) (places_of d)) ds)))

  pub places-nodes : (c : Config) → map of_place (all_places c) ≡ map of_node (nodes c)
  places-nodes c = in_domains (places_in c) (domains c)

places-types : (places_of : List ℕ → List Place) (ds : List (List ℕ)) → map (λ (p : Place). p.kind) (flat_map places_of ds) ≡ flat_map (λ d. map (λ (p : Place). p.kind) (places_of d)) ds
places-types places_of [] = refl
places-types places_of (d ∷ ds) = map-append (λ (p : Place). p.kind) (places_of d) (flat_map places_of ds) ∙ ap (λ l. map (λ (p : Place). p.kind) (places_of d) ++ l) (places-types places_of ds)

row-at : (k : ℕ) (ps : List Place) (n : ℕ) (r : NodeRow) (p : Place) → n < length ps → r ≡ get_or (rows_from k ps) n r → r ≡ row (k + n) (get_or ps n p)
row-at k [] n r p h e = absurd (omega (arith, h))
row-at k (x ∷ ps) zero r p h e = e ∙ ap (λ m. row m x) (omega arith)
row-at k (x ∷ ps) (suc n) r p h e = row-at (suc k) ps n r p (omega (arith, h)) e ∙ ap (λ m. row m (get_or ps n p)) (omega arith)

ids-back : (xs : List ℕ) → map (λ (x : AttrId). x.0) (map attr_id xs) ≡ xs
ids-back [] = refl
ids-back (x ∷ xs) = ap (λ l. x ∷ l) (ids-back xs)

-- what the names say of the nodes, domain k + j standing at the place j of the domains
module _ {A : Type 0} (c : Config) (of_name : NodeName → A) (of_node : Node → A) where
  abbrev at : ℕ → ℕ → A
  at k place = of_name (record { domain = k; place = place })

  names-here : (k from : ℕ) (d : List ℕ) (ps : List Place) → ((i : ℕ) (p : Place) → i < length ps → at k (from + i) ≡ of_node (node_at d (get_or ps i p))) → map of_name (names_at k from (map spot ps)) ≡ map of_node (map (node_at d) ps)
  names-here k from d [] same = refl
  names-here k from d (p ∷ ps) same = let with : A → List A → List A = λ a as_. a ∷ as_ in let none : from ≡ from + 0 = omega arith in
      ap₂ with (ap (at k) none ∙ same 0 p (omega arith)) (names-here k (suc from) d ps (λ i q h. let more : suc from + i ≡ from + suc i = omega arith in ap (at k) more ∙ same (suc i) q (omega (arith, h))))

  names-nodes : (k : ℕ) (ds : List (List ℕ)) → ((j i : ℕ) (p : Place) → j < length ds → i < length (places_in c (get_or ds j [])) → at (k + j) i ≡ of_node (node_at (get_or ds j []) (get_or (places_in c (get_or ds j [])) i p)))
      → map of_name (names_from c k ds) ≡ map of_node (flat_map (λ d. map (node_at d) (places_in c d)) ds)
  names-nodes k [] same = refl
  names-nodes k (d ∷ ds) same = let none : k ≡ k + 0 = omega arith in
      map-append of_name (names_at k 0 (spots_in c d)) (names_from c (suc k) ds)
      ∙ (ap₂ (λ a b. a ++ b) (names-here k 0 d (places_in c d) (λ i p h. let own : 0 + i ≡ i = omega arith in ap (at k) own ∙ (ap (λ m. at m i) none ∙ same 0 i p (omega arith) h)))
      (names-nodes (suc k) ds (λ j i p h w. let more : suc k + j ≡ k + suc j = omega arith in ap (λ m. at m i) more ∙ same (suc j) i p (omega (arith, h)) w))
      ∙ sym (map-append of_node (map (node_at d) (places_in c d)) (flat_map (λ d. map (node_at d) (places_in c d)) ds)))

item-there : (ps : List Place) (i : ℕ) (p : Place) → i < length ps → name_at (items_of ps) i ≡ (get_or ps i p).item
item-there [] i p h = absurd (omega (arith, h))
item-there (q ∷ ps) zero p h = refl
item-there (q ∷ ps) (suc i) p h = item-there ps i p (omega (arith, h))

names-items : (c : Config) → map (λ (x : NodeName). name_at (items_at c x.domain) x.place) (node_names c) ≡ map (λ (n : Node). n.item) (nodes c)
names-items c = names-nodes c (λ x. name_at (items_at c x.domain) x.place) (λ n. n.item) 0 (domains c) (λ j i p h w. let none : 0 + j ≡ j = omega arith in
    ap (λ k. name_at (items_at c k) i) none ∙ item-there (places_in c (domain_at c j)) i p w)

names-domains : (c : Config) → map (λ (x : NodeName). domain_at c x.domain) (node_names c) ≡ map (λ (n : Node). n.domain) (nodes c)
names-domains c = names-nodes c (λ x. domain_at c x.domain) (λ n. n.domain) 0 (domains c) (λ j i p h w. let none : 0 + j ≡ j = omega arith in ap (domain_at c) none)

-- what the name of node n says
pub record NameAt (c : Config) (n : ℕ) (x : NodeName) : Type 0 where
  pub within : x.domain < length (domains c)
  pub domain : domain_at c x.domain ≡ (node_of (configured_model c) n).domain
  pub item : name_at (items_at c x.domain) x.place ≡ (node_of (configured_model c) n).item

pub count-names : (c : Config) → length (node_names c) ≡ length (nodes c)
count-names c = sym (length-map (node_names c) (λ (x : NodeName). domain_at c x.domain)) ∙ (ap length (names-domains c) ∙ length-map (nodes c) (λ (n : Node). n.domain))

-- a name's domain is one of the domains
names-within : (c : Config) (all k : ℕ) (ds : List (List ℕ)) (n : ℕ) (x : NodeName) → k + length ds ≤ all → n < length (names_from c k ds) → x ≡ get_or (names_from c k ds) n x → x.domain < all
names-within c all k [] n x h l e = absurd (omega (arith, l))
names-within c all k (d ∷ ds) n x h l e = first (λ m w g. names-within c all (suc k) ds m x (omega (arith, h)) w g) 0 (spots_in c d) n l e
  where
    first : ((m : ℕ) → m < length (names_from c (suc k) ds) → x ≡ get_or (names_from c (suc k) ds) m x → x.domain < all) → (from : ℕ) (ss : List Spot) (n : ℕ)
        → n < length (names_at k from ss ++ names_from c (suc k) ds) → x ≡ get_or (names_at k from ss ++ names_from c (suc k) ds) n x → x.domain < all
    first later from [] n l e = later n l e
    first later from (s ∷ ss) zero l e = omega (arith, h, ap (λ (y : NodeName). y.domain) e)
    first later from (s ∷ ss) (suc n) l e = first later (suc from) ss n (omega (arith, l)) e

pub name-at : (c : Config) (n : ℕ) (x : NodeName) → n < length (nodes c) → x ≡ get_or (node_names c) n x → NameAt c n x
name-at c n x h e = record {
  within = names-within c (length (domains c)) 0 (domains c) n x (omega arith) (omega (arith, h, count-names c)) e;
  domain = same_at (λ (x : NodeName). domain_at c x.domain) (λ (n : Node). n.domain) (node_names c) (nodes c) n x x _ (names-domains c) h e;
  item = same_at (λ (x : NodeName). name_at (items_at c x.domain) x.place) (λ (n : Node). n.item) (node_names c) (nodes c) n x x _ (names-items c) h e;
}

pub count-rows : (c : Config) → length (node_rows c) ≡ length (nodes c)
count-rows c = length-rows 0 (all_places c) ∙ (sym (length-map (all_places c) (λ (p : Place). p.item)) ∙ (ap length (places-nodes (λ p. p.item) (λ (n : Node). n.item) (λ d p. refl) c) ∙ length-map (nodes c) (λ (n : Node). n.item)))

pub count-spots : (c : Config) → length (all_spots c) ≡ length (nodes c)
count-spots c = sym (count-places c (domains c)) ∙ (sym (length-rows 0 (all_places c)) ∙ count-rows c)

-- the row of node n
type-there : (ks : List TypeOf) (ps : List Place) (n : ℕ) (p : Place) (k : TypeOf) → map (λ (p : Place). p.kind) ps ≡ ks → n < length ps → (get_or ps n p).kind ≡ get_or ks n k
type-there ks ps n p k e h = sym (get_or-map ps n p h) ∙ ap (λ l. get_or l n k) e
  where
    get_or-map : (ps : List Place) (n : ℕ) (p : Place) → n < length ps → get_or (map (λ (p : Place). p.kind) ps) n k ≡ (get_or ps n p).kind
    get_or-map [] n p h = absurd (omega (arith, h))
    get_or-map (x ∷ xs) zero p h = refl
    get_or-map (x ∷ xs) (suc n) p h = get_or-map xs n p (omega (arith, h))

pub self-at : (ps : List Place) (n : ℕ) (p : Place) → n < length ps → get_or ps n p ≡ get_or ps n (get_or ps n p)
self-at ps n p h = get_or_default ps n p (get_or ps n p) h

within-limit : (x : ℕ) → nat_le (min x 4294967295) 500 ≡ nat_le x 500
within-limit x = grind (arith, nat_tests)

abbrev is_member : Place → Bool
is_member p = may_be_member p && nat_le (min (largest p.kind) 4294967295) 500

pub row-is : (c : Config) (n : ℕ) (r : NodeRow) → n < length (nodes c) → r ≡ get_or (node_rows c) n r → IsRowOf c n r
row-is c n r h e =
    let lt : n < length (all_places c) = omega (arith, h, count-rows c, length-rows 0 (all_places c)) in
    let p : Place = get_or (all_places c) n no_place in
    let is : r ≡ row (0 + n) p = row-at 0 (all_places c) n r no_place lt e in
    record {
      kind = ap (λ (r : NodeRow). r.shape.kind) is ∙ type-there (node_types c) (all_places c) n no_place _ (places-types (places_in c) (domains c)) lt;
      attrs = ap (λ (r : NodeRow). map (λ (x : AttrId). x.0) r.shape.attrs) is
          ∙ same_at (λ (p : Place). map (λ (x : AttrId). x.0) (map attr_id p.attrs)) (λ (n : Node). n.attrs) (all_places c) (nodes c) n p no_place _ (places-nodes (λ p. map (λ (x : AttrId). x.0) (map attr_id p.attrs)) (λ (n : Node). n.attrs) (λ d p. ids-back p.attrs) c) h (self-at (all_places c) n no_place lt);
      allowed = ap (λ (r : NodeRow). r.allowed && nat_le r.octets 500) is
          ∙ same_at is_member (λ (n : Node). n.allowed) (all_places c) (nodes c) n p no_place _ (places-nodes is_member (λ (n : Node). n.allowed) (λ d p. ap (λ b. may_be_member p && b) (within-limit (largest p.kind))) c) h (self-at (all_places c) n no_place lt);
      node = ap (λ (r : NodeRow). r.shape.node.0) is ∙ omega arith;
    }

-- by the tables of a model's configuration
pub within-names : (c model : Config) (names : List NodeName) (n : ℕ) → c ≡ model → names ≡ node_names c → n < length (nodes model) → n < length names
within-names c model names n v e h = omega (arith, h, ap length e, ap (λ m. length (node_names m)) v, count-names model)

-- the name that is read where there is none
abbrev pub no_name : NodeName
no_name = record { domain = 0; place = 0 }

pub name-of : (c model : Config) (names : List NodeName) (n : ℕ) → c ≡ model → names ≡ node_names c → n < length (nodes model) → NameAt model n (get_or names n no_name)
name-of c model names n v e h = let is : names ≡ node_names model = e ∙ ap node_names v in
    name-at model n (get_or names n no_name) h (ap (λ l. get_or l n no_name) is ∙ get_or_default (node_names model) n no_name (get_or names n no_name) (omega (arith, h, count-names model)))

pub within-rows : (c model : Config) (rows : List NodeRow) (n : ℕ) → c ≡ model → rows ≡ node_rows c → n < length (nodes model) → n < length rows
within-rows c model rows n v e h = omega (arith, h, ap length e, ap (λ m. length (node_rows m)) v, count-rows model)

pub row-of : (c model : Config) (rows : List NodeRow) (n : ℕ) (r : NodeRow) → c ≡ model → rows ≡ node_rows c → n < length (nodes model) → r ≡ get_or rows n r → IsRowOf model n r
row-of c model rows n r v e h is = row-is model n r h (is ∙ ap (λ l. get_or l n r) (e ∙ ap node_rows v))

some-there : (rs : List NodeRow) (n : ℕ) (r : NodeRow) → slice_get rs n ≡ Some r → r ≡ get_or rs n r
some-there [] n r e = refl
some-there (x ∷ rs) zero r e = some_is r x (sym e)
some-there (x ∷ rs) (suc n) r e = some-there rs n r e

some-within : (rs : List NodeRow) (n : ℕ) (r : NodeRow) → slice_get rs n ≡ Some r → n < length rs
some-within [] n r e = absurd (not_some r (sym e))
some-within (x ∷ rs) zero r e = omega arith
some-within (x ∷ rs) (suc n) r e = omega (arith, some-within rs n r e)

pub rows-are-nodes : (c : Config) (n : ℕ) (r : NodeRow) → slice_get (node_rows c) n ≡ Some r → IsRowOf c n r
rows-are-nodes c n r e = row-is c n r (omega (arith, some-within (node_rows c) n r e, count-rows c)) (some-there (node_rows c) n r e)
