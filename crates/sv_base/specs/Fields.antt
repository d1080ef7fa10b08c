-- The fields that a list of components is seen as, and the components of fields.
use Rattle.std.specs.Prelude.{List, [], ◌∷◌}
use Rattle.sv_base.specs.Types.{Shape, Fields, simple, composed, no_field, field, truth, int, uint, bits, time, stamp, text, octets, entry_id}
use Rattle.sv_base.specs.declared.types.TypeOf.{TypeOf}
use Rattle.sv_base.specs.declared.types.TypeOf.TheVariants as types
use Rattle.sv_base.specs.declared.types.Part1.{Part1}

abbrev pub shape_of : TypeOf → Shape
shape_of types.Bool = simple truth
shape_of (types.Int n) = simple (int n)
shape_of (types.Uint n) = simple (uint n)
shape_of (types.Bits n) = simple (bits n)
shape_of types.Time = simple time
shape_of types.Stamp = simple stamp
shape_of (types.Text n) = simple (text n)
shape_of (types.Octets n) = simple (octets n)
shape_of types.EntryId = simple entry_id
shape_of (types.Struct f) = composed f

abbrev pub fields_of : List Part1 → Fields
fields_of [] = no_field
fields_of (p ∷ ps) = field p.name (shape_of p.kind) (fields_of ps)

abbrev pub type_of : Shape → TypeOf
type_of (simple truth) = types.Bool
type_of (simple (int n)) = types.Int n
type_of (simple (uint n)) = types.Uint n
type_of (simple (bits n)) = types.Bits n
type_of (simple time) = types.Time
type_of (simple stamp) = types.Stamp
type_of (simple (text n)) = types.Text n
type_of (simple (octets n)) = types.Octets n
type_of (simple entry_id) = types.EntryId
type_of (composed f) = types.Struct f

abbrev pub parts_of : Fields → List Part1
parts_of no_field = []
parts_of (field name s f) = record { name = name; kind = type_of s } ∷ parts_of f
