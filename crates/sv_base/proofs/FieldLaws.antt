-- A list of components and the fields that it is seen as give each other back.
use Rattle.std.proofs.Common.{◌≡◌, List, [], ◌∷◌, refl, ap₂}
use Rattle.sv_base.specs.Types.{Shape, Fields, simple, composed, no_field, field, truth, int, uint, bits, time, stamp, text, octets, entry_id}
use Rattle.sv_base.specs.Fields.{shape_of, fields_of, type_of, parts_of}
use Rattle.sv_base.specs.declared.types.TypeOf.{TypeOf}
use Rattle.sv_base.specs.declared.types.TypeOf.TheVariants as types
use Rattle.sv_base.specs.declared.types.Part1.{Part1}

pub type-shape : (t : TypeOf) → type_of (shape_of t) ≡ t
type-shape types.Bool = refl
type-shape (types.Int n) = refl
type-shape (types.Uint n) = refl
type-shape (types.Bits n) = refl
type-shape types.Time = refl
type-shape types.Stamp = refl
type-shape (types.Text n) = refl
type-shape (types.Octets n) = refl
type-shape types.EntryId = refl
type-shape (types.Struct f) = refl

pub parts-fields : (ps : List Part1) → parts_of (fields_of ps) ≡ ps
parts-fields [] = refl
parts-fields (p ∷ ps) = let with : TypeOf → List Part1 → List Part1 = λ t rest. record { name = p.name; kind = t } ∷ rest in ap₂ with (type-shape p.kind) (parts-fields ps)

pub shape-type : (s : Shape) → shape_of (type_of s) ≡ s
shape-type (simple truth) = refl
shape-type (simple (int n)) = refl
shape-type (simple (uint n)) = refl
shape-type (simple (bits n)) = refl
shape-type (simple time) = refl
shape-type (simple stamp) = refl
shape-type (simple (text n)) = refl
shape-type (simple (octets n)) = refl
shape-type (simple entry_id) = refl
shape-type (composed f) = refl

pub fields-parts : (f : Fields) → fields_of (parts_of f) ≡ f
fields-parts no_field = refl
fields-parts (field name s f) = let one = shape-type s in let rest = fields-parts f in cc

pub ruleset fields = (parts-fields, fields-parts)
