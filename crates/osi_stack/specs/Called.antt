-- What SPDUs do to a connection on the side that was called.
use Rattle.std.specs.Prelude.{ℕ, ◌<◌, ◌≤◌, ◌^◌, min, length, List, Option, Some, None, Result, Ok, Err, ◌==◌, if◌then◌else◌}
use Rattle.ber_grammar.specs.Reader.{◌>>=◌, with_fault}
use Rattle.tpkt_cotp.specs.Written.{tsdu_of}
use Rattle.session_pres.specs.declared.codes.TheConstants.{DISCONNECT}
use Rattle.acse_apdu.specs.declared.codes.TheConstants.{RLRE}
use Rattle.session_pres.specs.declared.fault.SpFault.TheVariants as session
use Rattle.session_pres.specs.Plain.{Told, connects, transfers, finishes, aborts, Asked, spdu_from, cp_from, pdv_from}
use Rattle.session_pres.specs.Written.{accept_parameters, accept_spdu, release_spdu}
use Rattle.session_pres.specs.WrittenPpdu.{set_content, cpa_parameters, cpa_octets}
use Rattle.acse_apdu.specs.Reading.{pdu_of_aarq, rlrq_of}
use Rattle.acse_apdu.specs.Written.{aare_octets, release_octets}
use Rattle.mms_initiate.specs.declared.initiate.Initiate.{Initiate}
use Rattle.mms_initiate.specs.InitiateReading.{initiate_at}
use Rattle.mms_initiate.specs.InitiateOctets.{initiate_answer}
use Rattle.mms_elements.specs.declared.tags.TheConstants.{INITIATE_REQUEST}
use Rattle.osi_stack.specs.declared.events.Event.{Event}
use Rattle.osi_stack.specs.declared.events.Event.TheVariants.{Connected, Pdu, Released, Aborted}
use Rattle.osi_stack.specs.declared.events.Line.{Line}
use Rattle.osi_stack.specs.declared.cause.Cause.{Cause}
use Rattle.osi_stack.specs.declared.phase.Phase.{Phase}
use Rattle.osi_stack.specs.declared.phase.Phase.TheVariants.{Open, Ended}
use Rattle.osi_stack.specs.Causes.{of_session, of_association, of_initiate}

-- the next phase, and perhaps an event, or a refusal
abbrev pub Outcome : Type 0
Outcome = Result (Phase × Option Event) Cause

-- ---- the association is made

abbrev pub line_of : ℕ → Asked → Initiate → Line
line_of exponent cp asked = record { context = cp.mms; exponent = exponent; size = min asked.size 65000 }

-- the AARE with the initiate answer, and the ACCEPT with the CPA
abbrev pub aare_for : Asked → Initiate → List ℕ
aare_for cp asked = aare_octets cp.mms (initiate_answer asked)

unfoldable pub acceptance : Asked → Initiate → List ℕ
acceptance cp asked = accept_spdu (cpa_octets cp.list cp.acse (aare_for cp asked))

-- it can be written
pub record CanBeAccepted (cp : Asked) (asked : Initiate) : Type 0 where
  pub content : length (set_content (cpa_parameters cp.list cp.acse (aare_for cp asked))) < 2 ^ 32
  pub parameters : length (accept_parameters (cpa_octets cp.list cp.acse (aare_for cp asked))) ≤ 65535

abbrev pub accepted : ℕ → Asked → Initiate → Phase × Option Event
accepted exponent cp asked = (Open (line_of exponent cp asked) cp.acse, Some (Connected (line_of exponent cp asked) (tsdu_of exponent (acceptance cp asked))))

-- the user data of a CONNECT: a CP, in it an AARQ, in it an initiate request
unfoldable pub request_at : ℕ → List ℕ → Outcome
request_at exponent user =
    with_fault of_session (cp_from user) >>= λ cp.
    with_fault of_association (pdu_of_aarq cp.user) >>= λ pdu.
    with_fault of_initiate (initiate_at INITIATE_REQUEST pdu) >>= λ asked. Ok (accepted exponent cp asked)

abbrev pub first_spdu : ℕ → Told → Outcome
first_spdu exponent (connects user) = request_at exponent user
first_spdu exponent (transfers user) = Err (of_session session.Spdu)
first_spdu exponent (finishes user) = Err (of_session session.Spdu)
first_spdu exponent aborts = Err (of_session session.Spdu)

unfoldable pub called_at : ℕ → List ℕ → Outcome
called_at exponent octets = with_fault of_session (spdu_from octets) >>= λ spdu. first_spdu exponent spdu

-- ---- the association is there

-- the value of user data in this context
unfoldable pub in_context : ℕ → List ℕ → Result (List ℕ) Cause
in_context context user = with_fault of_session (pdv_from user) >>= λ pdv. if pdv.0 == context then Ok pdv.1 else Err (of_session session.Pdv)

-- a DISCONNECT with an RLRE answers
abbrev pub released : Line → ℕ → Phase × Option Event
released line acse = (Ended, Some (Released (tsdu_of line.exponent (release_spdu DISCONNECT acse (release_octets RLRE)))))

-- the user data of a FINISH, if it has any: an RLRQ
unfoldable pub finish_at : Line → ℕ → Option (List ℕ) → Outcome
finish_at line acse None = Ok (released line acse)
finish_at line acse (Some user) = in_context acse user >>= λ apdu. with_fault of_association (rlrq_of apdu) >>= λ x. Ok (released line acse)

-- data carry a PDU of MMS
unfoldable pub pdu_in : Phase → Line → List ℕ → Outcome
pdu_in phase line user = in_context line.context user >>= λ pdu. Ok (phase, Some (Pdu pdu))

abbrev pub next_spdu : Line → ℕ → Told → Outcome
next_spdu line acse (connects user) = Err (of_session session.Spdu)
next_spdu line acse (transfers user) = pdu_in (Open line acse) line user
next_spdu line acse (finishes user) = finish_at line acse user
next_spdu line acse aborts = Ok (Ended, Some Aborted)

unfoldable pub open_at : Line → ℕ → List ℕ → Outcome
open_at line acse octets = with_fault of_session (spdu_from octets) >>= λ spdu. next_spdu line acse spdu
