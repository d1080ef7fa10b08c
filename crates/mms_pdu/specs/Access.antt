-- ISO 9506-2, VariableAccessSpecification, Read-Request and Write-Request.
use Rattle.std.specs.Prelude.{◌≡◌, ℕ, Bool, false, List, [], ◌∷◌, length, Option, Some, None, ◌==◌, if◌then◌else◌}
use Rattle.ber_grammar.specs.Content.{IsBoolean}
use Rattle.ber_grammar.specs.Element.{Element, IsRow}
use Rattle.ber_grammar.specs.Place.{Spot, Piece, content_piece}
use Rattle.ber_grammar.specs.Reader.{and_then, kept}
use Rattle.ber_grammar.specs.Reading.{boolean_at}
use Rattle.sv_base.specs.Tree.{Seen}
use Rattle.ber_grammar.specs.Fields.{fields_in, only_in}
use Rattle.mms_pdu.specs.Each.{each_in}
use Rattle.mms_pdu.specs.ObjectName.{Name, IsOnlyName}
use Rattle.mms_pdu.specs.Variable.{Variable, AreVariables, variable_at, named_at}
use Rattle.mms_pdu.specs.Datum.{AreData, datum_at}
use Rattle.mms_pdu.specs.Service.{Service}
use Rattle.mms_pdu.specs.Service as services
use Rattle.mms_elements.specs.declared.tags.TheConstants.{ACCESS_SPECIFICATION, LIST_OF_DATA, LIST_OF_VARIABLE, SPECIFICATION_WITH_RESULT, VARIABLE_LIST_NAME}

-- variables, or a named variable list
pub data Access (N : Type 0) : Type 0 where
  variables : List (Variable N) → Access N
  named : Name N → Access N

-- listOfVariable, or variableListName
abbrev pub IsAccess : Element → Access (List ℕ) → Type 0
IsAccess e (variables vs) = (e.tag ≡ LIST_OF_VARIABLE) × AreVariables e.content vs
IsAccess e (named n) = (e.tag ≡ VARIABLE_LIST_NAME) × IsOnlyName e.content n

-- what a read names
abbrev pub IsReadAccess : Element → Access (List ℕ) → Type 0
IsReadAccess e access = (e.tag ≡ ACCESS_SPECIFICATION) × (k : Element) × IsRow e.content (k ∷ []) × IsAccess k access

-- specificationWithResult, false where it is absent, and then what is to be read
abbrev pub IsRead : List Element → Access (List ℕ) → Bool → Type 0
IsRead [] access spec = ⊥
IsRead (a ∷ []) access spec = (spec ≡ false) × IsReadAccess a access
IsRead (b ∷ a ∷ []) access spec = (b.tag ≡ SPECIFICATION_WITH_RESULT) × IsBoolean b.content spec × IsReadAccess a access
IsRead (b ∷ a ∷ c ∷ es) access spec = ⊥

-- what is to be written, and listOfData
abbrev pub IsWrite : List Element → Access (List ℕ) → List Seen → Type 0
IsWrite (a ∷ d ∷ []) access values = IsAccess a access × (d.tag ≡ LIST_OF_DATA) × AreData d.content values
IsWrite es access values = ⊥

-- ---- reading

unfoldable pub access_at : Spot → Option (Access Piece)
access_at s =
    if s.element.tag == LIST_OF_VARIABLE then and_then (each_in variable_at (content_piece s)) (λ vs. Some (variables vs))
    else and_then (named_at VARIABLE_LIST_NAME s) (λ n. Some (named n))

-- a boolean, where the octets are one
abbrev pub truth_at : List ℕ → Option Bool
truth_at content = kept (boolean_at (tt {0}) content)

abbrev pub to_read : Bool → Access Piece → Service Piece Spot
to_read spec (variables vs) = services.read vs spec
to_read spec (named n) = services.read_set n spec

unfoldable pub read_access_at : Bool → Spot → Option (Service Piece Spot)
read_access_at spec s = if s.element.tag == ACCESS_SPECIFICATION then and_then (and_then (only_in (content_piece s)) access_at) (λ access. Some (to_read spec access)) else None

unfoldable pub read_at : List Spot → Option (Service Piece Spot)
read_at [] = None
read_at (s ∷ []) = read_access_at false s
read_at (s ∷ t ∷ []) = if s.element.tag == SPECIFICATION_WITH_RESULT then and_then (truth_at s.element.content) (λ spec. read_access_at spec t) else None
read_at (s ∷ t ∷ u ∷ more) = None

-- whether two elements hold as many
unfoldable pub counts_agree_at : Spot → Spot → Option Bool
counts_agree_at s t = and_then (fields_in (content_piece s)) (λ ss. and_then (fields_in (content_piece t)) (λ ts. Some (length ss == length ts)))

-- as many values as variables
abbrev pub to_write : Spot → Spot → Access Piece → List Spot → Option (Service Piece Spot)
to_write s t (variables vs) ds = and_then (counts_agree_at s t) (λ agree. if agree then Some (services.write_vars vs ds) else None)
to_write s t (named n) ds = Some (services.write_set n ds)

unfoldable pub data_list_at : Spot → Option (List Spot)
data_list_at s = if s.element.tag == LIST_OF_DATA then each_in datum_at (content_piece s) else None

unfoldable pub write_at : List Spot → Option (Service Piece Spot)
write_at [] = None
write_at (s ∷ []) = None
write_at (s ∷ t ∷ []) = and_then (access_at s) (λ access. and_then (data_list_at t) (λ ds. to_write s t access ds))
write_at (s ∷ t ∷ u ∷ more) = None
