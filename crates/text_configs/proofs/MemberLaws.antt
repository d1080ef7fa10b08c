-- A member of a data set of a text is a node of the model, whose value is made of attributes and is not too large.
use Rattle.std.proofs.Common.{◌≡◌, ℕ, zero, suc, ◌<◌, ◌≤◌, ◌⊎◌, inl, inr, true, false, List, [], ◌∷◌, ◌++◌, length, map, flat_map, unwrap_or, nat_le, refl, sym, ap, subst, ◌∙◌, arith}
use Rattle.std.specs.List.{list_any, All}
use Rattle.std.specs.Str.{bytes_eq}
use Rattle.std.proofs.lemmas.Bool.{and_from}
use Rattle.std.proofs.lemmas.Bool.Decides.{nat_tests}
use Rattle.sv_base.specs.Types.{no_field}
use Rattle.sv_base.specs.Fields.{shape_of}
use Rattle.sv_base.specs.declared.config.Config.{Config}
use Rattle.sv_base.specs.declared.types.TypeOf.{TypeOf}
use Rattle.sv_base.specs.declared.types.TypeOf.TheVariants as types
use Rattle.bay_model.specs.Model.{Node, structure, none, several}
use Rattle.bay_model.specs.Lookups.{node_of}
use Rattle.bay_model.specs.Attributes.{attributes}
use Rattle.bay_model.specs.Places.{Place, node_at, may_be_member, largest, constraint, member_constraints}
use Rattle.bay_model.specs.Named.{nodes, configured_model}
use Rattle.object_model.specs.Tables.{node_type, node_types}
use Rattle.value_store.specs.Wholes.{HasForm, tree_attrs}
use Rattle.value_store.specs.Leaves.{leaf_shapes}
use Rattle.bay_config.specs.Servable.{IsMember, attr_type}
use Rattle.list_laws.proofs.Among.{Among, At, of-each, all-of, at-within, at-index, at-get}
use Rattle.text_configs.proofs.JoinedLaws.{rest}
use Rattle.text_configs.proofs.FormLaws.{IsFormed}

-- ---- the nodes one after another

pub record IsNodeAt (places_of : List ℕ → List Place) (ds : List (List ℕ)) (n : ℕ) (y : Node) : Type 0 where
  pub domain : List ℕ
  pub place : Place
  pub domain_there : Among domain ds
  pub place_there : Among place (places_of domain)
  pub is : y ≡ node_at domain place
  pub kind : At n place.kind (flat_map (λ d. map (λ (p : Place). p.kind) (places_of d)) ds)

node-in : (d : List ℕ) (ps : List Place) (rest : List Node) (kinds : List TypeOf) (n : ℕ) (y : Node) → At n y (map (node_at d) ps ++ rest)
    → ((p : Place) × Among p ps × (y ≡ node_at d p) × At n p.kind (map (λ (p : Place). p.kind) ps ++ kinds)) ⊎ ((m : ℕ) × At m y rest × ((k : TypeOf) → At m k kinds → At n k (map (λ (p : Place). p.kind) ps ++ kinds)))
node-in d [] rest kinds n y h = inr (n, h, λ k i. i)
node-in d (p ∷ ps) rest kinds zero y h = inl (p, inl refl, h, refl)
node-in d (p ∷ ps) rest kinds (suc n) y h = by (node-in d ps rest kinds n y h)
  where
    by : ((q : Place) × Among q ps × (y ≡ node_at d q) × At n q.kind (map (λ (p : Place). p.kind) ps ++ kinds)) ⊎ ((m : ℕ) × At m y rest × ((k : TypeOf) → At m k kinds → At n k (map (λ (p : Place). p.kind) ps ++ kinds)))
        → ((q : Place) × Among q (p ∷ ps) × (y ≡ node_at d q) × At (suc n) q.kind (map (λ (p : Place). p.kind) (p ∷ ps) ++ kinds)) ⊎ ((m : ℕ) × At m y rest × ((k : TypeOf) → At m k kinds → At (suc n) k (map (λ (p : Place). p.kind) (p ∷ ps) ++ kinds)))
    by (inl g) = inl (g.0, inr g.1, g.2, g.3)
    by (inr g) = inr g

pub node-at-place : (places_of : List ℕ → List Place) (ds : List (List ℕ)) (n : ℕ) (y : Node) → At n y (flat_map (λ d. map (node_at d) (places_of d)) ds) → IsNodeAt places_of ds n y
node-at-place places_of [] n y h = absurd h
node-at-place places_of (d ∷ ds) n y h =
    by (node-in d (places_of d) (flat_map (λ d. map (node_at d) (places_of d)) ds) (flat_map (λ d. map (λ (p : Place). p.kind) (places_of d)) ds) n y h) (λ m i. node-at-place places_of ds m y i)
  where
    kinds : List TypeOf
    kinds = flat_map (λ d. map (λ (p : Place). p.kind) (places_of d)) ds

    by : ((p : Place) × Among p (places_of d) × (y ≡ node_at d p) × At n p.kind (map (λ (p : Place). p.kind) (places_of d) ++ flat_map (λ d. map (λ (p : Place). p.kind) (places_of d)) ds))
        ⊎ ((m : ℕ) × At m y (flat_map (λ d. map (node_at d) (places_of d)) ds) × ((k : TypeOf) → At m k (flat_map (λ d. map (λ (p : Place). p.kind) (places_of d)) ds) → At n k (map (λ (p : Place). p.kind) (places_of d) ++ flat_map (λ d. map (λ (p : Place). p.kind) (places_of d)) ds)))
        → ((m : ℕ) → At m y (flat_map (λ d. map (node_at d) (places_of d)) ds) → IsNodeAt places_of ds m y) → IsNodeAt places_of (d ∷ ds) n y
    by (inl g) go = record { domain = d; place = g.0; domain_there = inl refl; place_there = g.1; is = g.2; kind = g.3 }
    by (inr g) go = let r = go g.0 g.1 in record { domain = r.domain; place = r.place; domain_there = inr r.domain_there; place_there = r.place_there; is = r.is; kind = g.2 r.place.kind r.kind }

-- what a node needs to be a member
pub record IsFit (c : Config) (p : Place) : Type 0 where
  pub formed : IsFormed (attr_type c) (length (attributes c)) p
  pub constrained : list_any (bytes_eq (constraint p.item)) member_constraints ≡ true
  pub small : largest p.kind ≤ 500

within-limit : (n : ℕ) → n ≤ 500 → nat_le n 500 ≡ true
within-limit n h = grind (arith, nat_tests)

pub member-of : (c : Config) (n : ℕ) (d : List ℕ) (p : Place) (y : Node) → At n y (nodes c) → y ≡ node_at d p → At n p.kind (node_types c) → IsFit c p → IsMember c n
member-of c n d p y at is kind fit =
    let node : node_of (configured_model c) n ≡ node_at d p = ap (λ o. unwrap_or o (record { domain = []; item = []; role = several; tree = structure none; attrs = []; allowed = false })) (at-get n y (nodes c) at) ∙ is in
    let type_is : node_type c n ≡ p.kind = at-index n p.kind (types.Struct no_field) (node_types c) kind in
    let attrs : (node_of (configured_model c) n).attrs ≡ p.attrs = ap (λ (m : Node). m.attrs) node in
    let tree : (node_of (configured_model c) n).tree ≡ p.tree = ap (λ (m : Node). m.tree) node in
    record {
      there = at-within n y (nodes c) at;
      allowed = ap (λ (m : Node). m.allowed) node ∙ and_from (may_be_member p) (nat_le (largest p.kind) 500) (and_from p.is_data (list_any (bytes_eq (constraint p.item)) member_constraints) fit.formed.is_data fit.constrained) (within-limit (largest p.kind) fit.small);
      form = subst (λ t. HasForm t (shape_of (node_type c n))) (sym tree) (subst (λ k. HasForm p.tree (shape_of k)) (sym type_is) fit.formed.form);
      attrs = attrs ∙ (fit.formed.attrs ∙ ap tree_attrs (sym tree));
      within = subst (All (λ x. x < length (attributes c))) (sym attrs) (all-of (λ x. x < length (attributes c)) p.attrs (λ x i. of-each (λ x. x < length (attributes c)) p.attrs x fit.formed.within i));
      kinds = ap (λ k. leaf_shapes (shape_of k)) type_is ∙ (fit.formed.kinds ∙ ap (map (λ x. shape_of (attr_type c x))) (sym attrs));
    }
