-- The Data of a member of a data set: of the shape of its type, with the values of its attributes in the order of the type
-- (ISO 9506-2, Data and TypeSpecification).
use Rattle.std.specs.Prelude.{ℕ, ◌+◌, List, map, drop, slice_index_or}
use Rattle.sv_base.specs.Tree.{Seen, Row, structure, none, more}
use Rattle.sv_base.specs.Seen.{seen_of}
use Rattle.sv_base.specs.Data.{data_seen}
use Rattle.sv_base.specs.Types.{Shape, Fields, simple, composed, no_field, field}
use Rattle.sv_base.specs.Fields.{shape_of}
use Rattle.sv_base.specs.declared.numbers.AttrId.{AttrId}
use Rattle.sv_base.specs.declared.types.TypeOf.{TypeOf}
use Rattle.sv_base.specs.declared.value.Value.{Value}
use Rattle.sv_base.specs.declared.value.Value.TheVariants as kinds
use Rattle.value_store.specs.Stored.{Stored, attribute}

-- how many attributes a type is made of
abbrev mutual
  pub leaves : Shape → ℕ
  leaves (simple k) = 1
  leaves (composed fs) = leaves_in fs

  pub leaves_in : Fields → ℕ
  leaves_in no_field = 0
  leaves_in (field name s fs) = leaves s + leaves_in fs

-- of the shape, with the first of the values
abbrev mutual
  pub value_with : Shape → List Value → Seen
  value_with (simple k) vs = seen_of (slice_index_or vs 0 kinds.Other)
  value_with (composed fs) vs = structure (row_with fs vs)

  pub row_with : Fields → List Value → Row
  row_with no_field vs = none
  row_with (field name s fs) vs = more (value_with s vs) (row_with fs (drop (leaves s) vs))

abbrev pub values_at : List Stored → List AttrId → List Value
values_at all attrs = map (λ (x : AttrId). (attribute all x.0).held.value) attrs

-- the Data of a type, with the values of these attributes
abbrev pub member_octets : List Stored → TypeOf → List AttrId → List ℕ
member_octets all kind attrs = data_seen (value_with (shape_of kind) (values_at all attrs))
