-- What SPDUs do to a connection on the side that called.
use Rattle.std.specs.Prelude.{ℕ, min, List, [], Option, Some, None, Ok, Err, if◌then◌else◌}
use Rattle.ber_grammar.specs.Reader.{◌>>=◌, with_fault}
use Rattle.session_pres.specs.declared.codes.TheConstants.{DISCONNECT}
use Rattle.session_pres.specs.declared.fault.SpFault.TheVariants as session
use Rattle.session_pres.specs.Units.{begins}
use Rattle.session_pres.specs.Plain.{Told, connects, transfers, finishes, aborts, spdu_from, ac_from, dn_from}
use Rattle.session_pres.specs.WrittenPpdu.{connect_spdu}
use Rattle.acse_apdu.specs.Reading.{pdu_of_aare, rlre_of}
use Rattle.acse_apdu.specs.Written.{aarq_octets}
use Rattle.mms_initiate.specs.declared.initiate.Initiate.{Initiate}
use Rattle.mms_initiate.specs.InitiateReading.{initiate_at}
use Rattle.mms_initiate.specs.InitiateOctets.{initiate_request}
use Rattle.mms_elements.specs.declared.tags.TheConstants.{INITIATE_RESPONSE}
use Rattle.osi_stack.specs.declared.events.Event.{Event}
use Rattle.osi_stack.specs.declared.events.Event.TheVariants.{Connected, Released, Aborted}
use Rattle.osi_stack.specs.declared.events.Line.{Line}
use Rattle.osi_stack.specs.declared.phase.Phase.{Phase}
use Rattle.osi_stack.specs.declared.phase.Phase.TheVariants.{Joined, Ended}
use Rattle.osi_stack.specs.Causes.{of_session, of_association, of_initiate}
use Rattle.osi_stack.specs.Called.{Outcome, in_context, pdu_in}

-- ---- the association is made

-- the CONNECT with a CP, in it an AARQ, in it an initiate request that proposes this size; 1 is the context of association
-- control and 3 that of MMS
unfoldable pub request_spdu : ℕ → List ℕ
request_spdu size = connect_spdu (aarq_octets 3 (initiate_request size))

-- a greater size than was proposed counts as that
abbrev pub line_left : ℕ → ℕ → Initiate → Line
line_left exponent size said = record { context = 3; exponent = exponent; size = min said.size size }

abbrev pub joined : ℕ → ℕ → Initiate → Phase × Option Event
joined exponent size said = (Joined (line_left exponent size said), Some (Connected (line_left exponent size said) []))

-- an ACCEPT with a CPA, in it an AARE, in it an initiate answer
unfoldable pub asking_at : ℕ → ℕ → List ℕ → Outcome
asking_at exponent size octets =
    with_fault of_session (ac_from octets) >>= λ apdu.
    with_fault of_association (pdu_of_aare apdu) >>= λ pdu.
    with_fault of_initiate (initiate_at INITIATE_RESPONSE pdu) >>= λ said. Ok (joined exponent size said)

-- ---- the association is there

-- nothing is to be sent
abbrev pub ended : Phase × Option Event
ended = (Ended, Some (Released []))

-- the user data of a DISCONNECT, if it has any: an RLRE
unfoldable pub end_at : Option (List ℕ) → Outcome
end_at None = Ok ended
end_at (Some user) = in_context 1 user >>= λ apdu. with_fault of_association (rlre_of apdu) >>= λ x. Ok ended

abbrev pub served_spdu : Line → Told → Outcome
served_spdu line (connects user) = Err (of_session session.Spdu)
served_spdu line (transfers user) = pdu_in (Joined line) line user
served_spdu line (finishes user) = Err (of_session session.Spdu)
served_spdu line aborts = Ok (Ended, Some Aborted)

unfoldable pub joined_at : Line → List ℕ → Outcome
joined_at line octets =
    if begins DISCONNECT octets then (with_fault of_session (dn_from octets) >>= λ user. end_at user)
    else (with_fault of_session (spdu_from octets) >>= λ spdu. served_spdu line spdu)
