-- ISO 9506-2, ConfirmedServiceRequest: the element of each service.
use Rattle.std.specs.Prelude.{◌≡◌, ℕ, Bool, ◌||◌, List, [], ◌∷◌, length, Option, Some, None, ◌==◌, if◌then◌else◌}
use Rattle.ber_grammar.specs.Content.{IsBoolean}
use Rattle.ber_grammar.specs.Element.{Element, IsRow}
use Rattle.ber_grammar.specs.Place.{Spot, Piece, content_piece}
use Rattle.ber_grammar.specs.Reader.{and_then}
use Rattle.sv_base.specs.Tree.{Seen}
use Rattle.ber_grammar.specs.Fields.{fields_in, only_in}
use Rattle.mms_pdu.specs.ObjectName.{IsOnlyName, name_at}
use Rattle.mms_pdu.specs.Variable.{named_at}
use Rattle.mms_pdu.specs.Service.{Service}
use Rattle.mms_pdu.specs.Service as services
use Rattle.mms_pdu.specs.NameList.{IsNameList, name_list_at}
use Rattle.mms_pdu.specs.Access.{variables, named, IsRead, IsWrite, truth_at, read_at, write_at}
use Rattle.mms_pdu.specs.VariableLists.{IsDefine, IsDelete, define_at, delete_at}
use Rattle.mms_elements.specs.declared.tags.TheConstants.{DEFINE_LIST, DELETE_LIST, GET_ATTRIBUTES, GET_LIST_ATTRIBUTES, GET_NAME_LIST, IDENTIFY, NAME, READ, STATUS, WRITE}

-- a service by its tag, and what the content asks
abbrev pub IsService : Element → Service (List ℕ) Seen → Type 0
IsService e services.status = (e.tag ≡ STATUS) × (b : Bool) × IsBoolean e.content b
IsService e (services.names class scope after) = (e.tag ≡ GET_NAME_LIST) × (es : List Element) × IsRow e.content es × IsNameList es class scope after
IsService e services.identify = (e.tag ≡ IDENTIFY) × (e.content ≡ [])
IsService e (services.read vs spec) = (e.tag ≡ READ) × (es : List Element) × IsRow e.content es × IsRead es (variables vs) spec
IsService e (services.read_set n spec) = (e.tag ≡ READ) × (es : List Element) × IsRow e.content es × IsRead es (named n) spec
-- as many values as variables
IsService e (services.write_vars vs values) = (e.tag ≡ WRITE) × (es : List Element) × IsRow e.content es × IsWrite es (variables vs) values × (length vs ≡ length values)
IsService e (services.write_set n values) = (e.tag ≡ WRITE) × (es : List Element) × IsRow e.content es × IsWrite es (named n) values
-- the choice name
IsService e (services.type_of_node n) = (e.tag ≡ GET_ATTRIBUTES) × (k : Element) × IsRow e.content (k ∷ []) × (k.tag ≡ NAME) × IsOnlyName k.content n
IsService e (services.define n vs) = (e.tag ≡ DEFINE_LIST) × (es : List Element) × IsRow e.content es × IsDefine es n vs
IsService e (services.set_of n) = (e.tag ≡ GET_LIST_ATTRIBUTES) × IsOnlyName e.content n
IsService e (services.delete scope ns) = (e.tag ≡ DELETE_LIST) × (es : List Element) × IsRow e.content es × IsDelete es scope ns

-- the first octet of a service
abbrev pub is_service : ℕ → Bool
is_service a = a == STATUS || a == GET_NAME_LIST || a == IDENTIFY || a == READ || a == WRITE || a == GET_ATTRIBUTES || a == DEFINE_LIST || a == GET_LIST_ATTRIBUTES || a == DELETE_LIST

-- ---- reading

abbrev pub status_at : Spot → Option (Service Piece Spot)
status_at s = and_then (truth_at s.element.content) (λ extended. Some services.status)

abbrev pub identify_at : Spot → Option (Service Piece Spot)
identify_at s = if length s.element.content == 0 then Some services.identify else None

abbrev pub type_of_node_at : Spot → Option (Service Piece Spot)
type_of_node_at s = and_then (and_then (only_in (content_piece s)) (named_at NAME)) (λ n. Some (services.type_of_node n))

abbrev pub set_of_at : Spot → Option (Service Piece Spot)
set_of_at s = and_then (and_then (only_in (content_piece s)) name_at) (λ n. Some (services.set_of n))

unfoldable pub service_at : Spot → Option (Service Piece Spot)
service_at s =
    if s.element.tag == STATUS then status_at s
    else if s.element.tag == GET_NAME_LIST then and_then (fields_in (content_piece s)) name_list_at
    else if s.element.tag == IDENTIFY then identify_at s
    else if s.element.tag == READ then and_then (fields_in (content_piece s)) read_at
    else if s.element.tag == WRITE then and_then (fields_in (content_piece s)) write_at
    else if s.element.tag == GET_ATTRIBUTES then type_of_node_at s
    else if s.element.tag == DEFINE_LIST then and_then (fields_in (content_piece s)) define_at
    else if s.element.tag == GET_LIST_ATTRIBUTES then set_of_at s
    else if s.element.tag == DELETE_LIST then and_then (fields_in (content_piece s)) delete_at
    else None
