-- Why the octets of a connection are refused: the first production that isn't there, and its cause.
use Rattle.std.specs.Prelude.{◌≡◌, ℕ, false, List, ◌++◌, Option, Some, None, ◌⊎◌}
use Rattle.std.specs.List.{flat_map, AllByRecursion}
use Rattle.ber_grammar.specs.Octets.{IsBytes}
use Rattle.ber_grammar.specs.Place.{Piece, anywhere}
use Rattle.ber_grammar.specs.Steps.{Or}
use Rattle.tpkt_cotp.specs.declared.fault.TpFault.TheVariants as transport
use Rattle.tpkt_cotp.specs.declared.state.State.{State}
use Rattle.tpkt_cotp.specs.declared.tsdus.Tsdu.{Tsdu}
use Rattle.tpkt_cotp.specs.declared.tsdus.Tsdu.TheVariants.{Connect, Data, Disconnect}
use Rattle.tpkt_cotp.specs.Packet.{packet, IsTpdu, IsBad}
use Rattle.tpkt_cotp.specs.Tpdu.{IsTaken, IsRefusedTpdu}
use Rattle.session_pres.specs.declared.codes.TheConstants.{DISCONNECT}
use Rattle.session_pres.specs.declared.fault.SpFault.TheVariants as session
use Rattle.session_pres.specs.Units.{Seen, HasUser, IsUserRefused, IsSpdu, IsSpduRefused, HasCode, connect, transfer, finish, abort}
use Rattle.session_pres.specs.UserData.{IsUserData}
use Rattle.session_pres.specs.Presentation.{IsCp, IsCpRefused, IsAc, IsAcRefused}
use Rattle.acse_apdu.specs.declared.codes.TheConstants.{RLRQ, RLRE}
use Rattle.acse_apdu.specs.Grammar.{IsAarq, IsAarqRefused, IsAare, IsAareRefused, IsReleaseRefused}
use Rattle.mms_initiate.specs.Initiate.{IsInitiateRefused}
use Rattle.mms_elements.specs.declared.tags.TheConstants.{INITIATE_REQUEST, INITIATE_RESPONSE}
use Rattle.osi_stack.specs.declared.cause.Cause.{Cause}
use Rattle.osi_stack.specs.declared.events.Event.{Event}
use Rattle.osi_stack.specs.declared.events.Line.{Line}
use Rattle.osi_stack.specs.declared.phase.Phase.{Phase}
use Rattle.osi_stack.specs.declared.phase.Phase.TheVariants.{Idle, Called, Open, Calling, Asking, Joined, Ended}
use Rattle.osi_stack.specs.Causes.{of_transport, of_session, of_association, of_initiate}
use Rattle.osi_stack.specs.Spelled.{GoOn}
use Rattle.osi_stack.specs.Stream.{Stand, has_ended, count_of}

-- a layer's own refusal, as a cause
abbrev pub In : {F : Type 0} → (F → Cause) → (F → Type 0) → Cause → Type 0
In cause_of IsRefused c = (f : _) × IsRefused f × (c ≡ cause_of f)

-- ---- the association is made

-- the user data of a CONNECT: no CP, or no AARQ in it, or no initiate request in that
abbrev pub IsRequestRefused : Piece → Cause → Type 0
IsRequestRefused user = Or (In of_session (IsCpRefused user)) (IsCp user) (λ cp. Or (In of_association (IsAarqRefused cp.user)) (IsAarq cp.user) (λ pdu. In of_initiate (IsInitiateRefused INITIATE_REQUEST pdu.octets)))

-- an SPDU that is no CONNECT
abbrev pub IsFirstRefused : Seen → Cause → Type 0
IsFirstRefused (connect user) c = IsRequestRefused user c
IsFirstRefused (transfer user) c = c ≡ of_session session.Spdu
IsFirstRefused (finish user) c = c ≡ of_session session.Spdu
IsFirstRefused abort c = c ≡ of_session session.Spdu

-- no ACCEPT with a CPA, or no AARE in it, or no initiate response in that
abbrev pub IsResponseRefused : List ℕ → Cause → Type 0
IsResponseRefused octets = Or (In of_session (IsAcRefused (anywhere octets))) (IsAc (anywhere octets)) (λ apdu. Or (In of_association (IsAareRefused apdu)) (IsAare apdu) (λ pdu. In of_initiate (IsInitiateRefused INITIATE_RESPONSE pdu.octets)))

-- ---- the association is there

-- no user data in this context
abbrev pub IsOutside : ℕ → Piece → Cause → Type 0
IsOutside context user c = (c ≡ of_session session.Pdv) × ((value : Piece) → ¬ IsUserData user (context, value))

-- user data that are no release APDU with this tag, in this context
abbrev pub IsNoRelease : ℕ → ℕ → Option Piece → Cause → Type 0
IsNoRelease tag context None c = ⊥
IsNoRelease tag context (Some user) c = Or (IsOutside context user) (λ apdu. IsUserData user (context, apdu)) (λ apdu. In of_association (IsReleaseRefused tag apdu)) c

-- a second CONNECT, data outside the context of MMS, or a FINISH with no RLRQ
abbrev pub IsNextRefused : Line → ℕ → Seen → Cause → Type 0
IsNextRefused line acse (connect user) c = c ≡ of_session session.Spdu
IsNextRefused line acse (transfer user) c = IsOutside line.context user c
IsNextRefused line acse (finish user) c = IsNoRelease RLRQ acse user c
IsNextRefused line acse abort c = ⊥

-- on the side that called: an SPDU that only a caller sends, or data outside the context of MMS
abbrev pub IsServedRefused : Line → Seen → Cause → Type 0
IsServedRefused line (connect user) c = c ≡ of_session session.Spdu
IsServedRefused line (transfer user) c = IsOutside line.context user c
IsServedRefused line (finish user) c = c ≡ of_session session.Spdu
IsServedRefused line abort c = ⊥

-- no SPDU, or one that is refused
abbrev pub IsUnitRefused : List ℕ → (Seen → Cause → Type 0) → Cause → Type 0
IsUnitRefused octets IsOtherRefused = Or (In of_session (IsSpduRefused (anywhere octets))) (IsSpdu (anywhere octets)) IsOtherRefused

abbrev pub IsEndRefused : List ℕ → Cause → Type 0
IsEndRefused octets = Or (In of_session (IsUserRefused DISCONNECT (anywhere octets))) (HasUser DISCONNECT (anywhere octets)) (IsNoRelease RLRE 1)

-- ---- a TSDU

abbrev pub IsDataRefused : Phase → List ℕ → Cause → Type 0
IsDataRefused Idle octets c = c ≡ of_transport transport.Sequence
IsDataRefused (Calling size) octets c = c ≡ of_transport transport.Sequence
IsDataRefused (Called exponent) octets c = IsUnitRefused octets IsFirstRefused c
IsDataRefused (Open line acse) octets c = IsUnitRefused octets (IsNextRefused line acse) c
IsDataRefused (Asking exponent size) octets c = IsResponseRefused octets c
IsDataRefused (Joined line) octets c = (HasCode DISCONNECT (anywhere octets) × IsEndRefused octets c) ⊎ (¬ HasCode DISCONNECT (anywhere octets) × IsUnitRefused octets (IsServedRefused line) c)
IsDataRefused Ended octets c = ⊥

abbrev pub IsTsduRefused : Phase → Tsdu → Cause → Type 0
IsTsduRefused phase (Connect cr) c = ⊥
IsTsduRefused phase (Data octets) c = IsDataRefused phase octets c
IsTsduRefused phase Disconnect c = ⊥

-- ---- streams

-- a TPDU that the transport refuses, or that gives a TSDU that is refused
abbrev pub IsTpduRefused : Stand → List ℕ → Cause → Type 0
IsTpduRefused s tpdu c = In of_transport (IsRefusedTpdu s.transport tpdu) c ⊎ ((t : State) × (tsdu : Tsdu) × IsTaken s.transport tpdu t (Some tsdu) × IsTsduRefused s.phase tsdu c)

-- After whole TPKTs, whose TPDUs give these events and didn't end it, stands no legal TPKT or a refused one. The TPKTs
-- before it have n octets.
pub record SpellsRefusal (from : Stand) (octets : List ℕ) (events : List Event) (cause : Cause) (count : ℕ) : Type 0 where
  pub fits : IsBytes octets
  pub stand : Stand
  pub bad : List ℕ
  pub tpdus : List (List ℕ)
  pub whole : octets ≡ flat_map packet tpdus ++ bad
  pub each : AllByRecursion IsTpdu tpdus
  pub go : GoOn from tpdus events stand
  pub on : has_ended stand.phase ≡ false
  pub stops : In of_transport (IsBad bad) cause ⊎ ((tpdu more : List ℕ) × IsTpdu tpdu × (bad ≡ packet tpdu ++ more) × IsTpduRefused stand tpdu cause)
  pub is_count : count ≡ count_of octets bad
