-- The Data of a member can be written, where each attribute has a value of its type.
use Rattle.std.proofs.Common.{◌≡◌, ◌<◌, ◌≤◌, ℕ, Bool, true, false, inl, inr, refl, List, [], ◌∷◌, ◌++◌, length, map, flat_map, filter, slice_index_or, ap, sym, ◌∙◌, subst, arith, length-append}
use Rattle.std.specs.List.{All}
use Rattle.std.specs.Prelude.{codes, pos, if◌then◌else◌}
use Rattle.std.proofs.lemmas.Bool.{leb-true, ltb-true, eqb-true}
use Rattle.std.proofs.lemmas.List.{length-map}
use Rattle.std.proofs.lemmas.List.Elements.{All-nil, All-cons, All-head, All-tail, All-append, All-map, All-filter}
use Rattle.list_laws.proofs.Appended.{map-map}
use Rattle.list_laws.proofs.Places.{at-or}
use Rattle.ber_grammar.specs.Element.{IsTag}
use Rattle.sv_base.specs.declared.config.AttrDef.{AttrDef}
use Rattle.sv_base.specs.declared.config.Config.{Config}
use Rattle.sv_base.specs.declared.config.CtlDef.{CtlDef}
use Rattle.sv_base.specs.declared.numbers.AttrId.{AttrId}
use Rattle.sv_base.specs.declared.types.TypeOf.{TypeOf}
use Rattle.sv_base.specs.declared.types.TypeOf.TheVariants as types
use Rattle.sv_base.specs.declared.value.Value.{Value}
use Rattle.sv_base.specs.declared.value.Value.TheVariants as kinds
use Rattle.sv_base.specs.Fields.{shape_of}
use Rattle.sv_base.specs.Types.{Shape, Fields, simple, composed, no_field, field}
use Rattle.bay_model.specs.declared.tables.MemberShape.{MemberShape}
use Rattle.bay_model.specs.Attributes.{attributes}
use Rattle.sv_base.specs.Kinds.{kind_of, is_kind, is_in_range}
use Rattle.bay_model.specs.Generated.{Parameter, is_selected, parameters, selection}
use Rattle.bay_model.specs.Lookups.{node_of}
use Rattle.bay_model.specs.Named.{configured_model}
use Rattle.bay_model.specs.NamedLines.{is_setting}
use Rattle.bay_model.specs.Places.{largest, largest_shape, largest_fields}
use Rattle.bay_rooms.specs.Slots.{IsSettable}
use Rattle.object_model.specs.Fits.{attr_types, is_sound}
use Rattle.object_model.specs.Tables.{node_type}
use Rattle.value_store.specs.Leaves.{leaf_shapes, leaf_shapes_in, HasValueOf, AreLeaves}
use Rattle.value_store.specs.Members.{leaves, member_octets}
use Rattle.value_store.specs.Stored.{Stored, attribute, IsStored}
use Rattle.value_store.specs.Written.{IsShort}
use Rattle.value_store.proofs.LargestLaws.{member_within}
use Rattle.value_store.proofs.WholeLaws.{attrs_of_form}
use Rattle.block_reports.specs.Again.{IsOneElement}
use Rattle.report_block.specs.EntryOctets.{IsWritable}
use Rattle.bay_config.specs.Servable.{IsServable, IsMember, attr_type}
use Rattle.bay_values.specs.Held.{AreHeld}
use Rattle.block_reports.proofs.OneElement.{member_is_one}
use Rattle.block_watch.proofs.ShapeLaws.{IsShapeOf}
use Rattle.object_model.proofs.KindLaws.{types-settable as all-settable}

-- ---- lists

All-unmap : {A B : Type 0} (P : B → Type 0) (f : A → B) (xs : List A) → All P (map f xs) → All (λ x. P (f x)) xs
All-unmap P f [] all = All-nil (λ x. P (f x))
All-unmap P f (x ∷ xs) all = All-cons (λ x. P (f x)) x xs (All-head P (f x) (map f xs) all) (All-unmap P f xs (All-tail P (f x) (map f xs) all))

-- ---- the types of attributes

abbrev HasPlainType : AttrDef → Type 0
HasPlainType a = IsSettable a.kind

lines-plain : (c : Config) → IsServable c → All HasPlainType c.attrs
lines-plain c served = λ k d below. (served.storable.lines k d below).settable

pub types-settable : (c : Config) → IsServable c → All IsSettable (attr_types c)
types-settable c served = all-settable c (lines-plain c served)

pub type-settable : (c : Config) (x : ℕ) → IsServable c → IsSettable (attr_type c x)
type-settable c x served = at-or IsSettable (attr_types c) x types.Bool tt (types-settable c served)

-- ---- no part of a type has larger Data than the type

mutual
  leaves-fit : (s : Shape) (most : ℕ) → largest_shape s ≤ most → All (λ t. largest_shape t ≤ most) (leaf_shapes s)
  leaves-fit (simple k) most h = All-cons (λ t. largest_shape t ≤ most) (simple k) [] h (All-nil (λ t. largest_shape t ≤ most))
  leaves-fit (composed fs) most h = leaves-fit-in fs most (omega (arith, h))

  leaves-fit-in : (fs : Fields) (most : ℕ) → largest_fields fs ≤ most → All (λ t. largest_shape t ≤ most) (leaf_shapes_in fs)
  leaves-fit-in no_field most h = All-nil (λ t. largest_shape t ≤ most)
  leaves-fit-in (field n s fs) most h = All-append (λ t. largest_shape t ≤ most) (leaf_shapes s) (leaf_shapes_in fs) (leaves-fit s most (omega (arith, h))) (leaves-fit-in fs most (omega (arith, h)))

-- a sound value of a type whose Data has at most 500 octets can be spelled
short-of : (kind : TypeOf) (v : Value) → IsSettable kind → is_kind (kind_of kind) v ≡ true → is_in_range (kind_of kind) v ≡ true → is_sound v ≡ true → largest kind ≤ 500 → IsShort v
short-of types.EntryId v s k r u small = absurd s
short-of (types.Struct f) v s k r u small = absurd s
short-of types.Bool (kinds.Bool b) s k r u small = tt
short-of (types.Int w) (kinds.Int z) s k r u small = tt
short-of (types.Uint w) (kinds.Uint n) s k r u small = tt
short-of (types.Bits n) (kinds.Bits b) s k r u small = let same = eqb-true (length b) n k in omega (arith, same, small)
short-of types.Time (kinds.Time t) s k r u small = omega (arith, ltb-true t.frac 16777216 u)
short-of types.Stamp (kinds.Stamp t) s k r u small = tt
short-of (types.Text most) (kinds.Text t) s k r u small = omega (arith, leb-true (length t) most r, small)
short-of (types.Octets most) (kinds.Octets o) s k r u small = omega (arith, leb-true (length o) most r, small)
short-of kind v s k r u small = cc

-- ---- a member

-- an attribute that is there has a value of its type
value-of : (c : Config) (stored : List Stored) (x : AttrId) → IsServable c → AreHeld c stored → x.0 < length stored → HasValueOf stored (attr_type c x.0) x
value-of c stored x served held there =
    let cell = held.sound x.0 there in
    let kind = sym (held.kinds x.0 there) in
    record {
      settable = type-settable c x.0 served;
      right_kind = ap (λ k. is_kind k (attribute stored x.0).held.value) kind ∙ cell.kind;
      in_range = ap (λ k. is_in_range k (attribute stored x.0).held.value) kind ∙ cell.range;
    }

module _ (c : Config) (stored : List Stored) (n : ℕ) (shape : MemberShape) (served : IsServable c) (held : AreHeld c stored) (member : IsMember c n) (is : IsShapeOf c n shape) where
  attrs-there : All (λ (x : AttrId). x.0 < length stored) shape.attrs
  attrs-there =
      let within : All (λ x. x < length (attributes c)) (map (λ (x : AttrId). x.0) shape.attrs) = subst (All (λ x. x < length (attributes c))) (sym is.attrs) member.within in
      let there = All-unmap (λ x. x < length (attributes c)) (λ (x : AttrId). x.0) shape.attrs within in
      λ k d below. omega (arith, there k d below, held.count)

  leaves-are : leaf_shapes (shape_of shape.kind) ≡ map (λ (x : AttrId). shape_of (attr_type c x.0)) shape.attrs
  leaves-are = ap (λ k. leaf_shapes (shape_of k)) is.kind ∙ (member.kinds ∙ (ap (map (λ x. shape_of (attr_type c x))) (sym is.attrs) ∙ map-map (λ x. shape_of (attr_type c x)) (λ (x : AttrId). x.0) shape.attrs))

  pub shape-leaves : AreLeaves stored (shape_of shape.kind) shape.attrs
  shape-leaves = record {
    type_of = λ x. attr_type c x.0;
    shapes = leaves-are;
    values = λ k d below. value-of c stored (slice_index_or shape.attrs k d) served held (attrs-there k d below);
  }

  attrs-small : All (λ (x : AttrId). largest (attr_type c x.0) ≤ 500) shape.attrs
  attrs-small = All-unmap (λ t. largest_shape t ≤ 500) (λ (x : AttrId). shape_of (attr_type c x.0)) shape.attrs (subst (All (λ t. largest_shape t ≤ 500)) leaves-are (leaves-fit (shape_of shape.kind) 500 is.small))

  stored-at : (x : AttrId) → x.0 < length stored → largest (attr_type c x.0) ≤ 500 → IsStored stored x
  stored-at x there small =
      let v = value-of c stored x served held there in
      (there, short-of (attr_type c x.0) (attribute stored x.0).held.value v.settable v.right_kind v.in_range (held.sound x.0 there).sound small)

  count-leaves : leaves (shape_of shape.kind) ≡ length shape.attrs
  count-leaves = ap (λ k. leaves (shape_of k)) is.kind
      ∙ (sym (attrs_of_form (node_of (configured_model c) n).tree (shape_of (node_type c n)) member.form)
      ∙ (ap length (sym (is.attrs ∙ member.attrs)) ∙ length-map shape.attrs (λ (x : AttrId). x.0)))

  pub shape-writable : IsWritable stored shape
  shape-writable = record {
    stored = λ k d below. stored-at (slice_index_or shape.attrs k d) (attrs-there k d below) (attrs-small k d below);
    whole = count-leaves;
    small = omega (arith, member_within stored shape.kind shape.attrs shape-leaves (omega (arith, is.small)), is.small);
  }

  pub shape-one : IsOneElement (member_octets stored shape.kind shape.attrs)
  shape-one = member_is_one stored shape.kind shape.attrs shape-leaves (omega (arith, is.small))

-- an element has an octet
tag-some : (tag : List ℕ) (n : ℕ) → IsTag tag n → 1 ≤ length tag
tag-some [] n is = absurd is
tag-some (a ∷ tag) n is = omega arith

pub one-some : (octets : List ℕ) → IsOneElement octets → 1 ≤ length octets
one-some octets one =
    let s = one.1 in
    omega (arith, tag-some s.tag one.0.tag s.is_tag, ap length s.whole, length-append s.tag (s.len ++ one.0.content))
