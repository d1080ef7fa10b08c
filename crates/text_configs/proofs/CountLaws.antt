-- What is counted for the references of a text's attributes, and of the structures above them.
use Rattle.std.proofs.Common.{◌≡◌, ℕ, suc, ◌<◌, ◌==◌, ◌⊎◌, inl, inr, Bool, true, false, List, [], ◌∷◌, ◌++◌, length, map, flat_map, filter, Option, Some, None, unwrap_or, refl, sym, ap, ap₂, subst, ◌∙◌, arith, append_assoc, length-append, true≢false, if◌then◌else◌}
use Rattle.std.specs.List.{sum_by}
use Rattle.std.specs.Str.{bytes_eq}
use Rattle.std.proofs.lemmas.Bool.Decides.{eqb_tells}
use Rattle.std.proofs.lemmas.List.{map-append}
use Rattle.list_laws.proofs.Distinct.{octets_same, octets_equal}
use Rattle.sv_base.specs.declared.config.Config.{Config}
use Rattle.sv_base.specs.declared.config.AttrDef.{AttrDef}
use Rattle.sv_base.specs.declared.config.CtlDef.{CtlDef}
use Rattle.sv_base.specs.declared.types.TypeOf.{TypeOf}
use Rattle.sv_base.specs.declared.types.TypeOf.TheVariants as types
use Rattle.bay_model.specs.Generated.{Parameter, parameters}
use Rattle.bay_model.specs.NamedLines.{is_setting}
use Rattle.bay_model.specs.Places.{largest}
use Rattle.object_model.specs.Fits.{attr_types}
use Rattle.cfg_lines.specs.Sizes.{most_octets, element_octets, leaf_octets, children, octets_of}
use Rattle.cfg_lines.specs.declared.leaf.Leaf.{Leaf}
use Rattle.bay_config.specs.Servable.{attr_type}
use Rattle.list_laws.proofs.Appended.{map-map}
use Rattle.list_laws.proofs.Among.{Among, At, of-each, at-among, among-at, at-same, at-map, at-left, at-index, mapped, right}
use Rattle.text_configs.proofs.JoinedLaws.{NoDollar, IsPlain, joined, joined-behind}
use Rattle.text_configs.proofs.ReachLaws.{child-alone, child-more}
use Rattle.text_configs.proofs.AttrLaws.{key_of}
use Rattle.text_configs.proofs.ParameterLaws.{parameter_attr, parameter_attrs, all_attrs, leaf_of}
use Rattle.text_configs.proofs.ToldLaws.{IsTold}
use Rattle.text_configs.proofs.SizeLaws.{IsCount}
use Rattle.text_configs.proofs.ValueLaws.{largest-counted}
use Rattle.text_configs.proofs.PathLaws.{name-plain, fc-plain, path-plain, reference_names, key-joined}

-- the octets of a leaf, and that there is none
pub lookup-found : (all : List Leaf) (l : Leaf) → Among l all → ((m : Leaf) → Among m all → l.name ≡ m.name → l.octets ≡ m.octets) → leaf_octets all l.name ≡ Some l.octets
lookup-found [] l i same = absurd i
lookup-found (m ∷ all) l i same = by (bytes_eq l.name m.name) refl i (λ j. lookup-found all l j (λ n k. same n (inr k)))
  where
    by : (t : Bool) → bytes_eq l.name m.name ≡ t → (l ≡ m) ⊎ Among l all → (Among l all → leaf_octets all l.name ≡ Some l.octets) → (if t then Some m.octets else leaf_octets all l.name) ≡ Some l.octets
    by true e j go = ap Some (sym (same m (inl refl) (octets_same l.name m.name e)))
    by false e (inl s) go = absurd (true≢false (sym (octets_equal l.name m.name (ap (λ (x : Leaf). x.name) s)) ∙ e))
    by false e (inr j) go = go j

pub lookup-none : (all : List Leaf) (node : List ℕ) → ((m : Leaf) → Among m all → node ≡ m.name → ⊥) → leaf_octets all node ≡ None
lookup-none [] node h = refl
lookup-none (m ∷ all) node h = by (bytes_eq node m.name) refl (lookup-none all node (λ n j. h n (inr j)))
  where
    by : (t : Bool) → bytes_eq node m.name ≡ t → leaf_octets all node ≡ None → (if t then Some m.octets else leaf_octets all node) ≡ None
    by true e go = absurd (h m (inl refl) (octets_same node m.name e))
    by false e go = go

pub octets-leaf : (depth : ℕ) (leaf : List ℕ → Option ℕ) (parts : List ℕ → List (List ℕ)) (node : List ℕ) (n : ℕ) → leaf node ≡ Some n → octets_of (suc depth) leaf parts node ≡ n
unfolding octets_of
octets-leaf depth leaf parts node n e = ap (λ r. unwrap_or r (element_octets (sum_by (λ part. octets_of depth leaf parts part) (parts node)))) e

pub octets-node : (depth : ℕ) (leaf : List ℕ → Option ℕ) (parts : List ℕ → List (List ℕ)) (node : List ℕ) → leaf node ≡ None → octets_of (suc depth) leaf parts node ≡ element_octets (sum_by (λ part. octets_of depth leaf parts part) (parts node))
unfolding octets_of
octets-node depth leaf parts node e = ap (λ r. unwrap_or r (element_octets (sum_by (λ part. octets_of depth leaf parts part) (parts node)))) e

middle : (P : List ℕ → Type 0) (names : List (List ℕ)) (q : List (List ℕ)) (name : List ℕ) (more : List (List ℕ)) → ((n : List ℕ) → Among n names → P n) → q ++ name ∷ more ≡ names → P name
middle P names q name more h e = h name (subst (Among name) e (right name q (name ∷ more) (inl refl)))

kinds-are : (c : Config) → map (λ (a : AttrDef). a.kind) (all_attrs c) ≡ map (λ (a : AttrDef). a.kind) c.attrs ++ flat_map (λ (k : CtlDef). map (λ (p : Parameter). p.kind) (parameters k)) c.controls
kinds-are c = map-append (λ (a : AttrDef). a.kind) c.attrs (flat_map parameter_attrs c.controls) ∙ ap (λ l. map (λ (a : AttrDef). a.kind) c.attrs ++ l) (each c.controls)
  where
    each : (ks : List CtlDef) → map (λ (a : AttrDef). a.kind) (flat_map parameter_attrs ks) ≡ flat_map (λ (k : CtlDef). map (λ (p : Parameter). p.kind) (parameters k)) ks
    each [] = refl
    each (k ∷ ks) = map-append (λ (a : AttrDef). a.kind) (parameter_attrs k) (flat_map parameter_attrs ks) ∙ ap₂ (λ x y. x ++ y) (map-map (λ (a : AttrDef). a.kind) (parameter_attr k) (parameters k)) (each ks)

-- attributes, each with its facts, none at or above another
module _ (c : Config) (told : IsTold c) where
  abbrev pub Known : List (List ℕ) → ℕ → Type 0
  Known names x = (a : AttrDef) × At x a (all_attrs c) × (names ≡ reference_names a)

  abbrev pub leaf_keys : List (List ℕ)
  leaf_keys = map (λ (l : Leaf). l.name) told.leaves

  abbrev pub counted : ℕ → List ℕ → ℕ
  counted depth node = octets_of depth (leaf_octets told.leaves) (children leaf_keys) node

  pub type-at : (x : ℕ) (a : AttrDef) → At x a (all_attrs c) → attr_type c x ≡ a.kind
  type-at x a h =
      let own : List TypeOf = map (λ (b : AttrDef). b.kind) c.attrs in
      let generated : List TypeOf = flat_map (λ (k : CtlDef). map (λ (p : Parameter). p.kind) (parameters k)) c.controls in
      let twins : List TypeOf = map (λ (b : AttrDef). b.kind) (filter is_setting c.attrs) in
      at-index x a.kind types.Bool (attr_types c) (subst (At x a.kind) (append_assoc own generated twins)
      (at-left x a.kind (own ++ generated) twins (subst (At x a.kind) (kinds-are c) (at-map (λ (b : AttrDef). b.kind) x a (all_attrs c) h))))

  same-key : (x : ℕ) (a b : AttrDef) → At x a (all_attrs c) → Among b (all_attrs c) → key_of a ≡ key_of b → a ≡ b
  same-key x a b h i e = let y = among-at b (all_attrs c) i in by y.0 y.1 (eqb_tells x y.0)
    where
      by : (y : ℕ) → At y b (all_attrs c) → ((x == y) ≡ true × (x ≡ y)) ⊎ ((x == y) ≡ false × (x ≡ y → ⊥)) → a ≡ b
      by y k (inl t) = at-same y a b (all_attrs c) (subst (λ n. At n a (all_attrs c)) t.1 h) k
      by y k (inr t) = absurd ((told.beside x y a b h k t.1).other e)

  longer : (p more : List ℕ) → p ≡ p ++ 36 ∷ more → ⊥
  longer p more e = absurd (omega (arith, ap length e, length-append p (36 ∷ more)))

  -- no attribute is above another, nor above itself
  never-above : (x : ℕ) (a b : AttrDef) (more : List ℕ) → At x a (all_attrs c) → Among b (all_attrs c) → key_of a ≡ key_of b ++ 36 ∷ more → ⊥
  never-above x a b more h i e = let y = among-at b (all_attrs c) i in by y.0 y.1 (eqb_tells x y.0)
    where
      by : (y : ℕ) → At y b (all_attrs c) → ((x == y) ≡ true × (x ≡ y)) ⊎ ((x == y) ≡ false × (x ≡ y → ⊥)) → ⊥
      by y k (inl t) = let s : a ≡ b = at-same y a b (all_attrs c) (subst (λ n. At n a (all_attrs c)) t.1 h) k in longer (key_of b) more (sym (ap key_of s) ∙ e)
      by y k (inr t) = (told.beside x y a b h k t.1).below more e

  reference-plain : (a : AttrDef) → Among a (all_attrs c) → (n : List ℕ) → Among n (reference_names a) → NoDollar n
  reference-plain a i n (inl e) = subst NoDollar (sym e) (both a.domain a.ln (name-plain a.domain (told.attrs a i).node.domain_name).1 (name-plain a.ln (told.attrs a i).node.ln_name).1)
    where
      both : (d l : List ℕ) → NoDollar d → NoDollar l → NoDollar (d ++ 47 ∷ l)
      both [] l h k = (refl, k)
      both (o ∷ d) l h k = (h.0, both d l h.1 k)
  reference-plain a i n (inr (inl e)) = subst NoDollar (sym e) (fc-plain a.fc (told.attrs a i).constraint).1
  reference-plain a i n (inr (inr j)) = (of-each IsPlain _ n (path-plain a.path (told.attrs a i).path.0) j).1

  -- what is known of a front and a name after it
  behind : (q : List (List ℕ)) (name : List ℕ) (more : List (List ℕ)) (a : AttrDef) → 0 < length q → q ++ name ∷ more ≡ reference_names a → key_of a ≡ joined q ++ 36 ∷ joined (name ∷ more)
  behind q name more a some e = key-joined a ∙ (ap joined (sym e) ∙ joined-behind q name more some)

  pub is-count : IsCount (attr_type c) Known counted (children leaf_keys)
  is-count = record {
    leaf = λ p x depth k.
        let i = at-among x k.0 (all_attrs c) k.1 in
        let found : leaf_octets told.leaves (joined p) ≡ Some (most_octets k.0.kind) = ap (leaf_octets told.leaves) (ap joined k.2 ∙ sym (key-joined k.0)) ∙ lookup-found told.leaves (leaf_of k.0) (told.leaf_there k.0 i) (same x k.0 k.1) in
        omega (arith, octets-leaf depth (leaf_octets told.leaves) (children leaf_keys) (joined p) (most_octets k.0.kind) found, ap largest (type-at x k.0 k.1), largest-counted k.0.kind (told.attrs k.0 i).type_);
    node = λ q name more x depth some k.
        octets-node depth (leaf_octets told.leaves) (children leaf_keys) (joined q)
        (lookup-none told.leaves (joined q) (λ m j e. let b = told.leaf_back m j in
        never-above x k.0 b.attr (joined (name ∷ more)) k.1 b.there (behind q name more k.0 some k.2 ∙ ap (λ l. l ++ 36 ∷ joined (name ∷ more)) (e ∙ ap (λ (l : Leaf). l.name) b.is))));
    part = λ q name more x some k.
        let i = at-among x k.0 (all_attrs c) k.1 in
        subst (λ r. Among r (children leaf_keys (joined q))) (sym (joined-behind q name [] some))
        (child (joined q) name more leaf_keys (middle NoDollar (reference_names k.0) q name more (reference-plain k.0 i) k.2)
        (subst (λ r. Among r leaf_keys) (behind q name more k.0 some k.2) (mapped (λ (l : Leaf). l.name) (leaf_of k.0) told.leaves (told.leaf_there k.0 i))));
  }
    where
      same : (x : ℕ) (a : AttrDef) → At x a (all_attrs c) → (m : Leaf) → Among m told.leaves → key_of a ≡ m.name → most_octets a.kind ≡ m.octets
      same x a h m j e = let b = told.leaf_back m j in ap (λ (d : AttrDef). most_octets d.kind) (same-key x a b.attr h b.there (e ∙ ap (λ (l : Leaf). l.name) b.is)) ∙ sym (ap (λ (l : Leaf). l.octets) b.is)

      child : (front name : List ℕ) (more : List (List ℕ)) (names : List (List ℕ)) → NoDollar name → Among (front ++ 36 ∷ joined (name ∷ more)) names → Among (front ++ 36 ∷ name) (children names front)
      child front name [] names plain i = child-alone front name names plain i
      child front name (n ∷ more) names plain i = child-more front name (joined (n ∷ more)) names plain i
