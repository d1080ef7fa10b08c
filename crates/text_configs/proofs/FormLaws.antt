-- A tree of attributes alone: the values of its nodes are made of their attributes, in the order of their types.
use Rattle.std.proofs.Common.{◌≡◌, ℕ, ◌<◌, Bool, true, ◌&&◌, List, [], ◌∷◌, ◌++◌, map, refl, sym, ap, subst, ◌∙◌}
use Rattle.std.proofs.lemmas.List.{map-append}
use Rattle.sv_base.specs.Types.{Shape, Fields, composed, no_field, field}
use Rattle.sv_base.specs.Fields.{shape_of}
use Rattle.sv_base.specs.declared.types.TypeOf.{TypeOf}
use Rattle.sv_base.specs.declared.types.TypeOf.TheVariants as types
use Rattle.bay_model.specs.Model.{Role, single, selecting, calling, several, attribute, component, setting, withheld, leaf, structure}
use Rattle.bay_model.specs.NameTree.{Forest, nothing, named}
use Rattle.bay_model.specs.Places.{Place, place, places, type_with, fields, tree_with, trees, attrs_of_role, attrs_in, is_data_role, are_data}
use Rattle.bay_rooms.specs.Slots.{IsSettable}
use Rattle.value_store.specs.Wholes.{HasForm, HaveForms, tree_attrs, row_attrs}
use Rattle.value_store.specs.Leaves.{leaf_shapes, leaf_shapes_in}
use Rattle.list_laws.proofs.Among.{Each, each-both}

-- attributes are numbered below n, and of these types
module _ (kind : ℕ → TypeOf) (n : ℕ) where
  abbrev pub IsNumber : ℕ → Type 0
  IsNumber x = (x < n) × IsSettable (kind x)

  -- an attribute has no parts
  abbrev pub IsPart : Role → TypeOf → Forest → Type 0
  IsPart (single (attribute x)) k parts = (k ≡ kind x) × (parts ≡ nothing) × IsNumber x
  IsPart several k parts = k ≡ types.Struct no_field
  IsPart _ k parts = ⊥

  abbrev pub IsTree : Forest → Type 0
  IsTree nothing = Unit {0}
  IsTree (named name r k parts others) = IsPart r k parts × IsTree parts × IsTree others

  abbrev pub kinds_of : List ℕ → List Shape
  kinds_of xs = map (λ x. shape_of (kind x)) xs

  pub record AreFormed (f : Forest) : Type 0 where
    pub forms : HaveForms (trees f) (fields f)
    pub attrs : attrs_in f ≡ row_attrs (trees f)
    pub within : Each (λ x. x < n) (attrs_in f)
    pub kinds : leaf_shapes_in (fields f) ≡ kinds_of (attrs_in f)
    pub is_data : are_data f ≡ true

  pub record IsFormed (p : Place) : Type 0 where
    pub form : HasForm p.tree (shape_of p.kind)
    pub attrs : p.attrs ≡ tree_attrs p.tree
    pub within : Each (λ x. x < n) p.attrs
    pub kinds : leaf_shapes (shape_of p.kind) ≡ kinds_of p.attrs
    pub is_data : p.is_data ≡ true

  composed-with : (fs : Fields) → shape_of (type_with (types.Struct no_field) fs) ≡ composed fs
  composed-with no_field = refl
  composed-with (field name s fs) = refl

  leaf-form : (x : ℕ) (k : TypeOf) → IsSettable k → HasForm (leaf (attribute x)) (shape_of k)
  leaf-form x types.Bool s = tt
  leaf-form x (types.Int w) s = tt
  leaf-form x (types.Uint w) s = tt
  leaf-form x (types.Bits w) s = tt
  leaf-form x types.Time s = tt
  leaf-form x types.Stamp s = tt
  leaf-form x (types.Text w) s = tt
  leaf-form x (types.Octets w) s = tt
  leaf-form x types.EntryId s = absurd s
  leaf-form x (types.Struct f) s = absurd s

  leaf-shape : (k : TypeOf) → IsSettable k → leaf_shapes (shape_of k) ≡ shape_of k ∷ []
  leaf-shape types.Bool s = refl
  leaf-shape (types.Int w) s = refl
  leaf-shape (types.Uint w) s = refl
  leaf-shape (types.Bits w) s = refl
  leaf-shape types.Time s = refl
  leaf-shape types.Stamp s = refl
  leaf-shape (types.Text w) s = refl
  leaf-shape (types.Octets w) s = refl
  leaf-shape types.EntryId s = absurd s
  leaf-shape (types.Struct f) s = absurd s

  formed-leaf : (item : List ℕ) (x : ℕ) → IsNumber x → IsFormed (place item (single (attribute x)) (kind x) nothing)
  formed-leaf item x h = record { form = leaf-form x (kind x) h.1; attrs = refl; within = (h.0, tt); kinds = leaf-shape (kind x) h.1; is_data = refl }

  formed-structure : (item : List ℕ) (parts : Forest) → AreFormed parts → IsFormed (place item several (types.Struct no_field) parts)
  formed-structure item parts h = record {
    form = subst (HasForm (structure (trees parts))) (sym (composed-with (fields parts))) h.forms;
    attrs = h.attrs;
    within = h.within;
    kinds = ap leaf_shapes (composed-with (fields parts)) ∙ h.kinds;
    is_data = h.is_data;
  }

  pub formed : (item : List ℕ) (r : Role) (k : TypeOf) (parts : Forest) → IsPart r k parts → AreFormed parts → IsFormed (place item r k parts)
  formed item (single (attribute x)) k parts h go = subst (λ q. IsFormed (place item (single (attribute x)) k q)) (sym h.1) (subst (λ t. IsFormed (place item (single (attribute x)) t nothing)) (sym h.0) (formed-leaf item x h.2))
  formed item (single (component b c)) k parts h go = absurd h
  formed item (single (setting d p)) k parts h go = absurd h
  formed item (single withheld) k parts h go = absurd h
  formed item (selecting c) k parts h go = absurd h
  formed item (calling c call) k parts h go = absurd h
  formed item several k parts h go = subst (λ t. IsFormed (place item several t parts)) (sym h) (formed-structure item parts go)

  both-data : (a b : Bool) → a ≡ true → b ≡ true → (a && b) ≡ true
  both-data a b h k = ap (λ (x : Bool). x && b) h ∙ k

  -- a place and those beside it
  beside : (r : Role) (k : TypeOf) (parts others : Forest) (name : List ℕ) → IsFormed (place [] r k parts) → AreFormed others → AreFormed (named name r k parts others)
  beside r k parts others name h go = record {
    forms = (h.form, go.forms);
    attrs = ap (λ l. l ++ attrs_in others) h.attrs ∙ ap (λ l. tree_attrs (tree_with r (trees parts)) ++ l) go.attrs;
    within = each-both (λ x. x < n) (attrs_of_role r ++ attrs_in parts) (attrs_in others) h.within go.within;
    kinds = ap (λ l. l ++ leaf_shapes_in (fields others)) h.kinds ∙ (ap (λ l. kinds_of (attrs_of_role r ++ attrs_in parts) ++ l) go.kinds ∙ sym (map-append (λ x. shape_of (kind x)) (attrs_of_role r ++ attrs_in parts) (attrs_in others)));
    is_data = both-data (is_data_role r && are_data parts) (are_data others) h.is_data go.is_data;
  }

  pub are-formed : (f : Forest) → IsTree f → AreFormed f
  are-formed nothing h = record { forms = tt; attrs = refl; within = tt; kinds = refl; is_data = refl }
  are-formed (named name r k parts others) h = beside r k parts others name (formed [] r k parts h.0 (are-formed parts h.1)) (are-formed others h.2)

  pub places-formed : (before : List ℕ) (f : Forest) → IsTree f → Each IsFormed (places before f)
  places-formed before nothing h = tt
  places-formed before (named name r k parts others) h = (
    formed (before ++ name) r k parts h.0 (are-formed parts h.1),
    each-both IsFormed (places (before ++ name ++ 36 ∷ []) parts) (places before others) (places-formed (before ++ name ++ 36 ∷ []) parts h.1) (places-formed before others h.2),
  )
