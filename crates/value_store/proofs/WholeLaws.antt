-- The Data of a member is that of its node's whole value.
use Rattle.std.proofs.Common.{◌≡◌, refl, ap, ap₂, sym, ◌∙◌, ℕ, zero, suc, List, [], ◌∷◌, ◌++◌, length, map, drop, arith, length-append, append_assoc, append-nil}
use Rattle.std.proofs.lemmas.List.{map-append}
use Rattle.sv_base.specs.Tree.{Seen, Row}
use Rattle.sv_base.specs.Tree as seen
use Rattle.sv_base.specs.Seen.{seen_of}
use Rattle.sv_base.specs.Types.{Shape, Fields, simple, composed, no_field, field}
use Rattle.sv_base.specs.declared.value.Value.{Value}
use Rattle.bay_model.specs.Model as model
use Rattle.bay_model.specs.Model.{Model, Tree, Trees}
use Rattle.bay_model.specs.Points.{Past}
use Rattle.bay_model.specs.Values.{value_at, whole, whole_row}
use Rattle.std.proofs.lemmas.List.Elements.{All-tail}
use Rattle.sv_base.specs.Data.{data_seen, data_of}
use Rattle.sv_base.specs.Fields.{shape_of}
use Rattle.sv_base.specs.declared.numbers.AttrId.{AttrId}
use Rattle.sv_base.specs.declared.types.TypeOf.{TypeOf}
use Rattle.value_store.specs.Stored.{Stored, IsStored, AreStored}
use Rattle.value_store.specs.Members.{values_at, member_octets, leaves, leaves_in, value_with, row_with}
use Rattle.value_store.specs.Wholes.{Stands, tree_attrs, row_attrs, HasForm, HaveForms}

mutual
  pub attrs_of_form : (t : Tree) (s : Shape) → HasForm t s → length (tree_attrs t) ≡ leaves s
  attrs_of_form (model.leaf (model.attribute x)) (simple k) form = refl
  attrs_of_form (model.structure ts) (composed fs) form = attrs_of_forms ts fs form
  attrs_of_form (model.leaf (model.attribute x)) (composed fs) form = elim form [ ]
  attrs_of_form (model.leaf (model.component b _)) s form = elim form [ ]
  attrs_of_form (model.leaf (model.setting d _)) s form = elim form [ ]
  attrs_of_form (model.leaf model.withheld) s form = elim form [ ]
  attrs_of_form (model.structure ts) (simple k) form = elim form [ ]

  pub attrs_of_forms : (ts : Trees) (fs : Fields) → HaveForms ts fs → length (row_attrs ts) ≡ leaves_in fs
  attrs_of_forms model.none no_field forms = refl
  attrs_of_forms model.none (field n s fs) forms = elim forms [ ]
  attrs_of_forms (model.more t ts) no_field forms = elim forms [ ]
  attrs_of_forms (model.more t ts) (field n s fs) forms = omega (arith, length-append (tree_attrs t) (row_attrs ts), attrs_of_form t s forms.0, attrs_of_forms ts fs forms.1)

abbrev pub values_of_attrs : Model → Past → List ℕ → List Value
values_of_attrs c past xs = map (λ x. value_at c x past) xs

pub after_attrs : (c : Model) (past : Past) (xs ys : List ℕ) (rest : List Value) (n : ℕ) → length xs ≡ n → drop n (values_of_attrs c past (xs ++ ys) ++ rest) ≡ values_of_attrs c past ys ++ rest
after_attrs c past [] ys rest zero is = refl
after_attrs c past [] ys rest (suc n) is = absurd (omega (arith, is))
after_attrs c past (x ∷ xs) ys rest zero is = absurd (omega (arith, is))
after_attrs c past (x ∷ xs) ys rest (suc n) is = after_attrs c past xs ys rest n (omega (arith, is))

mutual
  pub whole_of_form : (c : Model) (past : Past) (t : Tree) (s : Shape) (rest : List Value) → HasForm t s
      → value_with s (values_of_attrs c past (tree_attrs t) ++ rest) ≡ seen_of (whole c past t)
  whole_of_form c past (model.leaf (model.attribute x)) (simple k) rest form = refl
  whole_of_form c past (model.structure ts) (composed fs) rest form = ap seen.structure (row_of_forms c past ts fs rest form)
  whole_of_form c past (model.leaf (model.attribute x)) (composed fs) rest form = elim form [ ]
  whole_of_form c past (model.leaf (model.component b _)) s rest form = elim form [ ]
  whole_of_form c past (model.leaf (model.setting d _)) s rest form = elim form [ ]
  whole_of_form c past (model.leaf model.withheld) s rest form = elim form [ ]
  whole_of_form c past (model.structure ts) (simple k) rest form = elim form [ ]

  pub row_of_forms : (c : Model) (past : Past) (ts : Trees) (fs : Fields) (rest : List Value) → HaveForms ts fs
      → row_with fs (values_of_attrs c past (row_attrs ts) ++ rest) ≡ whole_row c past ts
  row_of_forms c past model.none no_field rest forms = refl
  row_of_forms c past model.none (field n s fs) rest forms = elim forms [ ]
  row_of_forms c past (model.more t ts) no_field rest forms = elim forms [ ]
  row_of_forms c past (model.more t ts) (field n s fs) rest forms =
      ap₂ seen.more
      (ap (λ l. value_with s l) (ap (λ l. l ++ rest) (map-append (λ x. value_at c x past) (tree_attrs t) (row_attrs ts)) ∙ append_assoc (values_of_attrs c past (tree_attrs t)) (values_of_attrs c past (row_attrs ts)) rest)
      ∙ whole_of_form c past t s (values_of_attrs c past (row_attrs ts) ++ rest) forms.0)
      (ap (λ l. row_with fs l) (after_attrs c past (tree_attrs t) (row_attrs ts) rest (leaves s) (attrs_of_form t s forms.0)) ∙ row_of_forms c past ts fs rest forms.1)

-- the values of attributes that are stored are those of the history
pub values_stand : (all : List Stored) (c : Model) (past : Past) (attrs : List AttrId) → Stands all c past → AreStored all attrs
    → values_at all attrs ≡ values_of_attrs c past (map (λ (x : AttrId). x.0) attrs)
values_stand all c past [] stands are = refl
values_stand all c past (x ∷ xs) stands are = ap₂ (λ (v : Value) l. v ∷ l) (stands x.0 (are 0 x (omega arith)).0) (values_stand all c past xs stands (All-tail (IsStored all) x xs are))

pub member_is_whole : (all : List Stored) (c : Model) (past : Past) (t : Tree) (kind : TypeOf) (attrs : List AttrId)
    → Stands all c past → AreStored all attrs → HasForm t (shape_of kind) → map (λ (x : AttrId). x.0) attrs ≡ tree_attrs t
    → member_octets all kind attrs ≡ data_of (whole c past t)
member_is_whole all c past t kind attrs stands are form same =
    ap (λ vs. data_seen (value_with (shape_of kind) vs)) (values_stand all c past attrs stands are ∙ (ap (values_of_attrs c past) same ∙ sym (append-nil (values_of_attrs c past (tree_attrs t)))))
    ∙ ap data_seen (whole_of_form c past t (shape_of kind) [] form)
