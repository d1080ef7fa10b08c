-- The octets of what a client asks, in the minimal spelling of each element (ISO 9506-2, Confirmed-RequestPDU with a
-- Read-Request and a Write-Request).
use Rattle.std.specs.Prelude.{ℕ, ◌<◌, false, List, [], ◌∷◌, ◌++◌, length, slice_index}
use Rattle.ber_grammar.specs.Content.{IsVisible}
use Rattle.ber_write.specs.Minimal.{octets_of, uint_octets}
use Rattle.sv_base.specs.Data.{data_of}
use Rattle.sv_base.specs.declared.value.Value.{Value}
use Rattle.mms_pdu.specs.ObjectName.{domain}
use Rattle.mms_pdu.specs.Variable.{Variable}
use Rattle.mms_elements.specs.declared.tags.TheConstants.{ACCESS_SPECIFICATION, CONCLUDE_REQUEST, CONFIRMED_REQUEST, DOMAIN_SPECIFIC, IDENTIFIER, INVOKE_ID, LIST_OF_DATA, LIST_OF_VARIABLE, NAME, READ, VARIABLE, WRITE}

-- the octets of an Identifier, a VisibleString
abbrev pub AreVisible : List ℕ → Type 0
AreVisible octets = (k : ℕ) → k < length octets → IsVisible (slice_index octets k)

-- a domain-specific name of the domain's identifier and the item's
abbrev pub domain_name : List ℕ → List ℕ → List ℕ
domain_name d i = octets_of DOMAIN_SPECIFIC (octets_of IDENTIFIER d ++ octets_of IDENTIFIER i)

-- listOfVariable of the one variable of this name, without alternate access
abbrev pub one_variable : List ℕ → List ℕ → List ℕ
one_variable d i = octets_of LIST_OF_VARIABLE (octets_of VARIABLE (octets_of NAME (domain_name d i)))

-- a confirmed service under an invoke number
abbrev pub confirmed_octets : ℕ → ℕ → List ℕ → List ℕ
confirmed_octets invoke tag body = octets_of CONFIRMED_REQUEST (octets_of INVOKE_ID (uint_octets invoke) ++ octets_of tag body)

unfoldable pub read_request : ℕ → List ℕ → List ℕ → List ℕ
read_request invoke d i = confirmed_octets invoke READ (octets_of ACCESS_SPECIFICATION (one_variable d i))

unfoldable pub write_request : ℕ → List ℕ → List ℕ → Value → List ℕ
write_request invoke d i value = confirmed_octets invoke WRITE (one_variable d i ++ octets_of LIST_OF_DATA (data_of value))

-- Conclude-RequestPDU, a NULL
abbrev pub conclude_request : List ℕ
conclude_request = CONCLUDE_REQUEST ∷ 0 ∷ []

-- the variable that a request names
abbrev pub named_variable : List ℕ → List ℕ → Variable (List ℕ)
named_variable d i = record { name = domain d i; alternate = false }
