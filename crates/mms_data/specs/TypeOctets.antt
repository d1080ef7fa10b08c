-- The octets of a type in its minimal spelling (ISO 9506-2, TypeDescription, a choice of context tags).
use Rattle.std.specs.Prelude.{ℕ, zero, suc, ◌^◌, ◌<◌, ℤ, pos, negsuc, List, [], ◌∷◌, ◌++◌, length}
use Rattle.ber_write.specs.Minimal.{octets_of, int_octets, uint_octets}
use Rattle.sv_base.specs.Types.{Kind, Shape, Fields, truth, int, uint, bits, time, stamp, text, octets, entry_id, simple, composed, no_field, field}
use Rattle.sv_base.specs.Fields.{shape_of, fields_of}
use Rattle.sv_base.specs.declared.types.TypeOf.{TypeOf}
use Rattle.sv_base.specs.declared.types.Part1.{Part1}
use Rattle.mms_data.specs.declared.tags.TheConstants.{BINARY_TIME, BIT_STRING, BOOLEAN, COMPONENT_NAME, COMPONENT, COMPONENT_TYPE, COMPONENTS, INTEGER, OCTET_STRING, STRUCTURE, UNSIGNED, UTC_TIME, VISIBLE_STRING}

-- a size that is a greatest one is written with its sign turned round
abbrev pub at_most : ℕ → ℤ
at_most zero = pos 0
at_most (suc n) = negsuc n

-- A boolean and a utc-time are of nothing; a bit-string is its count of bits, an integer and an unsigned the size in bits,
-- an octet-string and a visible-string the greatest length; a binary-time says whether the date is included, which it is.
-- An EntryID is an octet string of exactly 8.
abbrev pub kind_octets : Kind → List ℕ
kind_octets truth = octets_of BOOLEAN []
kind_octets (bits n) = octets_of BIT_STRING (int_octets (pos n))
kind_octets (int n) = octets_of INTEGER (uint_octets n)
kind_octets (uint n) = octets_of UNSIGNED (uint_octets n)
kind_octets (octets n) = octets_of OCTET_STRING (int_octets (at_most n))
kind_octets entry_id = octets_of OCTET_STRING (int_octets (pos 8))
kind_octets (text n) = octets_of VISIBLE_STRING (int_octets (at_most n))
kind_octets stamp = octets_of BINARY_TIME (255 ∷ [])
kind_octets time = octets_of UTC_TIME []

-- In a structure are its components, each a SEQUENCE of its name and its type.
abbrev mutual
  pub shape_octets : Shape → List ℕ
  shape_octets (simple k) = kind_octets k
  shape_octets (composed f) = octets_of STRUCTURE (octets_of COMPONENTS (fields_octets f))

  pub fields_octets : Fields → List ℕ
  fields_octets no_field = []
  fields_octets (field name s f) = octets_of COMPONENT (octets_of COMPONENT_NAME name ++ octets_of COMPONENT_TYPE (shape_octets s)) ++ fields_octets f

abbrev pub type_of : TypeOf → List ℕ
type_of t = shape_octets (shape_of t)

-- the content of a component, and the component
abbrev pub part_content : Part1 → List ℕ
part_content p = octets_of COMPONENT_NAME p.name ++ octets_of COMPONENT_TYPE (type_of p.kind)

abbrev pub part_octets : Part1 → List ℕ
part_octets p = octets_of COMPONENT (part_content p)

-- the components, one after another
abbrev pub parts_octets : List Part1 → List ℕ
parts_octets ps = fields_octets (fields_of ps)

-- No content in it is above 4294967295 octets.
abbrev mutual
  pub FitsShape : Shape → Type 0
  FitsShape (simple k) = Unit {0}
  FitsShape (composed f) = (length (octets_of COMPONENTS (fields_octets f)) < 2 ^ 32) × FitsFields f

  pub FitsFields : Fields → Type 0
  FitsFields no_field = Unit {0}
  FitsFields (field name s f) = (length (octets_of COMPONENT_NAME name ++ octets_of COMPONENT_TYPE (shape_octets s)) < 2 ^ 32) × FitsShape s × FitsFields f

abbrev pub FitsType : TypeOf → Type 0
FitsType t = FitsShape (shape_of t)

abbrev pub FitsPart : Part1 → Type 0
FitsPart p = (length (part_content p) < 2 ^ 32) × FitsType p.kind

abbrev pub FitsParts : List Part1 → Type 0
FitsParts ps = FitsFields (fields_of ps)
