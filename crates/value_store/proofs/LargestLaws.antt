-- The Data of a value, and of a member, is no longer than the largest of its type.
use Rattle.std.proofs.Common.{◌≡◌, ℕ, ◌+◌, ◌-◌, ◌/◌, ◌%◌, ◌^◌, ◌<◌, ◌≤◌, List, [], ◌∷◌, ◌++◌, length, map, drop, true, refl, sym, ap, subst, ◌∙◌, arith, length-append, append_assoc, append-nil}
use Rattle.std.specs.List.{All}
use Rattle.std.specs.Int.{w64, to_be_bytes, cast_unsigned}
use Rattle.std.proofs.lemmas.Bool.{leb-true, eqb-true}
use Rattle.std.proofs.lemmas.List.{drop-map}
use Rattle.std.proofs.lemmas.List.Elements.{All-drop}
use Rattle.std.proofs.Math.Seq.{drop-append_seam}
use Rattle.sv_base.specs.Data.{packed, shortest, data_of, data_seen, data_row}
use Rattle.sv_base.specs.Types.{Shape, Kind, Fields, simple, composed, no_field, field}
use Rattle.sv_base.specs.Fields.{shape_of}
use Rattle.sv_base.specs.declared.numbers.AttrId.{AttrId}
use Rattle.sv_base.specs.declared.types.TypeOf.{TypeOf}
use Rattle.sv_base.specs.declared.types.TypeOf.TheVariants as types
use Rattle.sv_base.specs.declared.value.Value.{Value}
use Rattle.sv_base.specs.declared.value.Value.TheVariants as kinds
use Rattle.sv_base.proofs.LengthLaws.{length-packed}
use Rattle.sv_base.specs.Kinds.{kind_of, is_kind, is_in_range}
use Rattle.bay_model.specs.Places.{largest, largest_kind, largest_shape, largest_fields}
use Rattle.bay_rooms.specs.Slots.{IsSettable}
use Rattle.value_store.specs.Stored.{Stored, attribute}
use Rattle.value_store.specs.Members.{leaves, leaves_in, value_with, row_with, values_at, member_octets}
use Rattle.value_store.specs.Leaves.{leaf_shapes, leaf_shapes_in, HasValueOf, AreLeaves}
use Rattle.value_store.proofs.HeadLaws.{element_within, short_element}
use Rattle.value_store.proofs.MemberLaws.{values_after}
use Rattle.value_store.proofs.NumberSizes.{int_within, uint_within}

-- ---- one value

pub value_within : (kind : TypeOf) (v : Value) → IsSettable kind → is_kind (kind_of kind) v ≡ true → is_in_range (kind_of kind) v ≡ true → largest kind < 2 ^ 32
    → length (data_of v) ≤ largest kind
value_within types.EntryId v s k r small = absurd s
value_within (types.Struct f) v s k r small = absurd s
value_within types.Bool (kinds.Bool b) s k r small = omega arith
value_within (types.Int w) (kinds.Int z) s k r small = let few = int_within w z s r in omega (arith, few, short_element 133 (shortest (to_be_bytes w64 (cast_unsigned w64 z))) (omega (arith, few, s)))
value_within (types.Uint w) (kinds.Uint n) s k r small = let few = uint_within w n s r in omega (arith, few, short_element 134 (shortest (0 ∷ to_be_bytes w64 n)) (omega (arith, few, s)))
value_within (types.Bits n) (kinds.Bits b) s k r small =
    let same = eqb-true (length b) n k in
    element_within 132 (((8 - length b % 8) % 8) ∷ packed 128 0 b) (1 + (n + 7) / 8) (omega (arith, same, length-packed 0 b)) (omega (arith, small))
value_within types.Time (kinds.Time t) s k r small = omega arith
value_within types.Stamp (kinds.Stamp t) s k r small = omega arith
value_within (types.Text most) (kinds.Text t) s k r small = element_within 138 t most (leb-true (length t) most r) (omega (arith, small))
value_within (types.Octets most) (kinds.Octets o) s k r small = element_within 137 o most (leb-true (length o) most r) (omega (arith, small))
value_within kind v s k r small = cc k

-- ---- a member

-- equal lists that are not empty have equal first parts
first_same : (s : Shape) (more : List Shape) (t : Shape) (others : List Shape) → s ∷ more ≡ t ∷ others → t ≡ s
first_same s more t others is = cc

leaf_within : (all : List Stored) (type_of : AttrId → TypeOf) (k : Kind) (more : List Shape) (attrs : List AttrId)
    → simple k ∷ more ≡ map (λ x. shape_of (type_of x)) attrs → All (λ x. HasValueOf all (type_of x) x) attrs → largest_kind k < 2 ^ 32
    → length (data_seen (value_with (simple k) (values_at all attrs))) ≤ largest_kind k
leaf_within all type_of k more [] is values small = cc is
leaf_within all type_of k more (x ∷ attrs) is values small =
    let same = first_same (simple k) more (shape_of (type_of x)) (map (λ x. shape_of (type_of x)) attrs) is in
    let fits = values 0 x (omega arith) in
    let least = value_within (type_of x) (attribute all x.0).held.value fits.settable fits.right_kind fits.in_range in
    subst (λ (s : Shape). largest_shape s < 2 ^ 32 → length (data_of (attribute all x.0).held.value) ≤ largest_shape s) same least small

drop_front : (front rest : List Shape) (shape : AttrId → Shape) (attrs : List AttrId) → front ++ rest ≡ map shape attrs → rest ≡ map shape (drop (length front) attrs)
drop_front front rest shape attrs is = sym (drop-append_seam front rest) ∙ (ap (drop (length front)) is ∙ drop-map shape (length front) attrs)

mutual
  length_of_leaves : (s : Shape) → length (leaf_shapes s) ≡ leaves s
  length_of_leaves (simple k) = refl
  length_of_leaves (composed fs) = length_of_leaves_in fs

  length_of_leaves_in : (fs : Fields) → length (leaf_shapes_in fs) ≡ leaves_in fs
  length_of_leaves_in no_field = refl
  length_of_leaves_in (field n s fs) = omega (arith, length-append (leaf_shapes s) (leaf_shapes_in fs), length_of_leaves s, length_of_leaves_in fs)

mutual
  shape_within : (all : List Stored) (type_of : AttrId → TypeOf) (s : Shape) (more : List Shape) (attrs : List AttrId)
      → leaf_shapes s ++ more ≡ map (λ x. shape_of (type_of x)) attrs → All (λ x. HasValueOf all (type_of x) x) attrs → largest_shape s < 2 ^ 32
      → length (data_seen (value_with s (values_at all attrs))) ≤ largest_shape s
  shape_within all type_of (simple k) more attrs is values small = leaf_within all type_of k more attrs is values small
  shape_within all type_of (composed fs) more attrs is values small =
      let content = fields_within all type_of fs more attrs is values (omega (arith, small)) in
      element_within 162 (data_row (row_with fs (values_at all attrs))) (largest_fields fs) content (omega (arith, small))

  fields_within : (all : List Stored) (type_of : AttrId → TypeOf) (fs : Fields) (more : List Shape) (attrs : List AttrId)
      → leaf_shapes_in fs ++ more ≡ map (λ x. shape_of (type_of x)) attrs → All (λ x. HasValueOf all (type_of x) x) attrs → largest_fields fs < 2 ^ 32
      → length (data_row (row_with fs (values_at all attrs))) ≤ largest_fields fs
  fields_within all type_of no_field more attrs is values small = omega arith
  fields_within all type_of (field n s fs) more attrs is values small =
      let both = sym (append_assoc (leaf_shapes s) (leaf_shapes_in fs) more) ∙ is in
      let first = shape_within all type_of s (leaf_shapes_in fs ++ more) attrs both values (omega (arith, small)) in
      let rest = drop_front (leaf_shapes s) (leaf_shapes_in fs ++ more) (λ x. shape_of (type_of x)) attrs both in
      let behind = fields_within all type_of fs more (drop (length (leaf_shapes s)) attrs) rest (All-drop (λ x. HasValueOf all (type_of x) x) (length (leaf_shapes s)) attrs values) (omega (arith, small)) in
      let others = subst (λ (n : ℕ). length (data_row (row_with fs (values_at all (drop n attrs)))) ≤ largest_fields fs) (length_of_leaves s) behind in
      let same = ap (λ (vs : List Value). length (data_row (row_with fs vs))) (values_after all (leaves s) attrs) in
      omega (arith, first, others, same, length-append (data_seen (value_with s (values_at all attrs))) (data_row (row_with fs (drop (leaves s) (values_at all attrs)))))

pub member_within : (all : List Stored) (kind : TypeOf) (attrs : List AttrId) → AreLeaves all (shape_of kind) attrs → largest kind < 2 ^ 32
    → length (member_octets all kind attrs) ≤ largest kind
member_within all kind attrs are small = shape_within all are.type_of (shape_of kind) [] attrs (append-nil (leaf_shapes (shape_of kind)) ∙ are.shapes) are.values small
