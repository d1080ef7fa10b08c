-- The octets of an initiate that is written, in the minimal spelling of each element, and what an initiate answer says.
use Rattle.std.specs.Prelude.{ℕ, min, max, List, [], ◌∷◌, ◌++◌}
use Rattle.ber_write.specs.Minimal.{octets_of, uint_octets}
use Rattle.mms_initiate.specs.declared.initiate.Initiate.{Initiate}
use Rattle.mms_elements.specs.declared.tags.TheConstants.{INITIATE_REQUEST, INITIATE_RESPONSE, INIT_DETAIL, LOCAL_DETAIL, NESTING_LEVEL, OUTSTANDING_CALLED, OUTSTANDING_CALLING, PARAMETER_CBB, SERVICES_SUPPORTED, VERSION_NUMBER}

-- version 1; the parameters that all of IEC 61850-8-1 asks for; the services
abbrev pub version_octets : List ℕ
version_octets = octets_of VERSION_NUMBER (1 ∷ [])

abbrev pub parameter_octets : List ℕ
parameter_octets = octets_of PARAMETER_CBB (5 ∷ 0xf1 ∷ 0 ∷ [])

abbrev pub details_with : List ℕ → List ℕ
details_with services = version_octets ++ (parameter_octets ++ octets_of SERVICES_SUPPORTED services)

-- what the server does, and what the client names
abbrev pub answer_services : List ℕ
answer_services = 3 ∷ 0xee ∷ 0x1c ∷ 0 ∷ 0 ∷ 0 ∷ 0 ∷ 0 ∷ 0 ∷ 0 ∷ 1 ∷ 0x10 ∷ []

abbrev pub request_services : List ℕ
request_services = 3 ∷ 0xee ∷ 0x1c ∷ 0 ∷ 0 ∷ 4 ∷ 8 ∷ 0 ∷ 0 ∷ 0x79 ∷ 0xef ∷ 0x18 ∷ []

abbrev pub answer_details : List ℕ
answer_details = details_with answer_services

abbrev pub request_details : List ℕ
request_details = details_with request_services

abbrev pub initiate_content : Initiate → List ℕ → List ℕ
initiate_content i details = octets_of LOCAL_DETAIL (uint_octets i.size) ++ (octets_of OUTSTANDING_CALLING (uint_octets i.calling) ++ (octets_of OUTSTANDING_CALLED (uint_octets i.called) ++ (octets_of NESTING_LEVEL (uint_octets i.nesting) ++ octets_of INIT_DETAIL details)))

-- The lesser of what is asked and of what the server has; of calls and of the nesting at least one.
abbrev pub accepted : Initiate → Initiate
accepted asked = record { size = min asked.size 65000; calling = max 1 (min asked.calling 16); called = max 1 (min asked.called 16); nesting = max 1 (min asked.nesting 10) }

unfoldable pub initiate_answer : Initiate → List ℕ
initiate_answer asked = octets_of INITIATE_RESPONSE (initiate_content (accepted asked) answer_details)

-- five calls each way, ten deep
abbrev pub proposed : ℕ → Initiate
proposed size = record { size = size; calling = 5; called = 5; nesting = 10 }

unfoldable pub initiate_request : ℕ → List ℕ
initiate_request size = octets_of INITIATE_REQUEST (initiate_content (proposed size) request_details)
