-- The basic types that a type is made of, and attributes that have values of them (ISO 9506-2, TypeSpecification).
use Rattle.std.specs.Prelude.{◌≡◌, true, List, [], ◌∷◌, ◌++◌, map}
use Rattle.std.specs.List.{All}
use Rattle.sv_base.specs.Types.{Shape, simple, composed, Fields, no_field, field}
use Rattle.sv_base.specs.Fields.{shape_of}
use Rattle.sv_base.specs.declared.numbers.AttrId.{AttrId}
use Rattle.sv_base.specs.declared.types.TypeOf.{TypeOf}
use Rattle.sv_base.specs.Kinds.{kind_of, is_kind, is_in_range}
use Rattle.bay_rooms.specs.Slots.{IsSettable}
use Rattle.value_store.specs.Stored.{Stored, attribute}

-- the basic types that a type is made of, in order
abbrev mutual
  pub leaf_shapes : Shape → List Shape
  leaf_shapes (simple k) = simple k ∷ []
  leaf_shapes (composed fs) = leaf_shapes_in fs

  pub leaf_shapes_in : Fields → List Shape
  leaf_shapes_in no_field = []
  leaf_shapes_in (field name s fs) = leaf_shapes s ++ leaf_shapes_in fs

-- the attribute has a value of this type, and within its range
pub record HasValueOf (all : List Stored) (kind : TypeOf) (x : AttrId) : Type 0 where
  pub settable : IsSettable kind
  pub right_kind : is_kind (kind_of kind) (attribute all x.0).held.value ≡ true
  pub in_range : is_in_range (kind_of kind) (attribute all x.0).held.value ≡ true

-- these attributes are what the type is made of: each has a type of its own, and a value of that type
pub record AreLeaves (all : List Stored) (shape : Shape) (attrs : List AttrId) : Type 0 where
  pub type_of : AttrId → TypeOf
  pub shapes : leaf_shapes shape ≡ map (λ x. shape_of (type_of x)) attrs
  pub values : All (λ x. HasValueOf all (type_of x) x) attrs
