-- What the octets of a connection spell, production by production, and the events that this says.
use Rattle.std.specs.Prelude.{◌≡◌, ℕ, true, false, List, [], ◌∷◌, ◌++◌, Option, Some, None, ◌⊎◌}
use Rattle.std.specs.Option.{option_to_list}
use Rattle.std.specs.List.{flat_map, AllByRecursion}
use Rattle.ber_grammar.specs.Octets.{IsBytes}
use Rattle.ber_grammar.specs.Place.{Piece, anywhere}
use Rattle.tpkt_cotp.specs.declared.tsdus.Tsdu.{Tsdu}
use Rattle.tpkt_cotp.specs.declared.tsdus.Tsdu.TheVariants.{Connect, Data, Disconnect}
use Rattle.tpkt_cotp.specs.Packet.{packet, IsTpdu, IsPartial}
use Rattle.tpkt_cotp.specs.Tpdu.{IsTaken}
use Rattle.session_pres.specs.declared.codes.TheConstants.{DISCONNECT}
use Rattle.session_pres.specs.Units.{HasUser, IsSpdu, connect, transfer, finish, abort}
use Rattle.session_pres.specs.UserData.{IsUserData}
use Rattle.session_pres.specs.Presentation.{Request, IsCp, IsAc}
use Rattle.session_pres.specs.Plain.{asked}
use Rattle.acse_apdu.specs.declared.codes.TheConstants.{RLRQ, RLRE}
use Rattle.acse_apdu.specs.Grammar.{IsAarq, IsAare, IsRelease}
use Rattle.mms_initiate.specs.declared.initiate.Initiate.{Initiate}
use Rattle.mms_initiate.specs.Initiate.{IsAccepted}
use Rattle.mms_elements.specs.declared.tags.TheConstants.{INITIATE_REQUEST, INITIATE_RESPONSE}
use Rattle.osi_stack.specs.declared.events.Event.{Event}
use Rattle.osi_stack.specs.declared.events.Event.TheVariants.{Pdu, Aborted}
use Rattle.osi_stack.specs.declared.phase.Phase.{Phase}
use Rattle.osi_stack.specs.declared.phase.Phase.TheVariants.{Idle, Called, Open, Calling, Asking, Joined, Ended}
use Rattle.osi_stack.specs.Called.{accepted, released}
use Rattle.osi_stack.specs.Calling.{joined, ended}
use Rattle.osi_stack.specs.Machine.{connect_at}
use Rattle.osi_stack.specs.Stream.{Stand, has_ended}

-- ---- what a TSDU spells. Where it lies doesn't matter, so that it lies anywhere.

-- A CONNECT SPDU (ISO 8327-1); its user data are a CP PPDU (ISO 8823-1, CP-type); the user data of this, in the context of
-- association control, are an AARQ APDU (ISO 8650-1); and its user information is an Initiate-RequestPDU (ISO 9506-2).
pub record IsRequest (octets : List ℕ) (cp : Request) (initiate : Initiate) : Type 0 where
  pub user : Piece
  pub spdu : IsSpdu (anywhere octets) (connect user)
  pub ppdu : IsCp user cp
  pub pdu : Piece
  pub apdu : IsAarq cp.user pdu
  pub mms : IsAccepted INITIATE_REQUEST pdu.octets initiate

-- An ACCEPT SPDU; its user data are a CPA PPDU that accepts the contexts 1 and 3; the user data of this, in the context 1,
-- are an AARE APDU that accepts; and its user information is an Initiate-ResponsePDU.
pub record IsResponse (octets : List ℕ) (initiate : Initiate) : Type 0 where
  pub user : Piece
  pub spdu : IsAc (anywhere octets) user
  pub pdu : Piece
  pub apdu : IsAare user pdu
  pub mms : IsAccepted INITIATE_RESPONSE pdu.octets initiate

-- GIVE TOKENS and DATA TRANSFER SPDUs, and user data of the presentation layer (ISO 8823-1, User-data): one value in this
-- context
pub record IsData (octets : List ℕ) (context : ℕ) (value : List ℕ) : Type 0 where
  pub user : Piece
  pub spdu : IsSpdu (anywhere octets) (transfer user)
  pub part : Piece
  pub pdv : IsUserData user (context, part)
  pub is : part.octets ≡ value

-- no user data, or an RLRQ or RLRE APDU, by its tag, in this context
abbrev pub HasRelease : ℕ → ℕ → Option Piece → Type 0
HasRelease tag context None = Unit {0}
HasRelease tag context (Some user) = (apdu : Piece) × IsUserData user (context, apdu) × IsRelease tag apdu

-- a FINISH SPDU, with an RLRQ in the context of association control where it has user data
abbrev pub IsFinish : List ℕ → ℕ → Type 0
IsFinish octets context = (user : Option Piece) × IsSpdu (anywhere octets) (finish user) × HasRelease RLRQ context user

-- a DISCONNECT SPDU, with an RLRE in the context 1 where it has user data
abbrev pub IsDisconnect : List ℕ → Type 0
IsDisconnect octets = (user : Option Piece) × HasUser DISCONNECT (anywhere octets) user × HasRelease RLRE 1 user

-- an ABORT SPDU
abbrev pub IsAbort : List ℕ → Type 0
IsAbort octets = IsSpdu (anywhere octets) abort

-- ---- what a TSDU says to a connection: the next phase, and perhaps an event

-- a PDU of MMS, in its context
abbrev pub TellsPdu : Phase → ℕ → List ℕ → Phase × Option Event → Type 0
TellsPdu phase context octets x = (pdu : List ℕ) × IsData octets context pdu × (x ≡ (phase, Some (Pdu pdu)))

abbrev pub TellsAbort : List ℕ → Phase × Option Event → Type 0
TellsAbort octets x = IsAbort octets × (x ≡ (Ended, Some Aborted))

abbrev pub TellsData : Phase → List ℕ → Phase × Option Event → Type 0
TellsData Idle octets x = ⊥
TellsData (Calling size) octets x = ⊥
TellsData (Called exponent) octets x = (cp : Request) × (initiate : Initiate) × IsRequest octets cp initiate × (x ≡ accepted exponent (asked cp) initiate)
TellsData (Open line acse) octets x = TellsPdu (Open line acse) line.context octets x ⊎ (IsFinish octets acse × (x ≡ released line acse)) ⊎ TellsAbort octets x
TellsData (Asking exponent size) octets x = (initiate : Initiate) × IsResponse octets initiate × (x ≡ joined exponent size initiate)
TellsData (Joined line) octets x = TellsPdu (Joined line) line.context octets x ⊎ (IsDisconnect octets × (x ≡ ended)) ⊎ TellsAbort octets x
TellsData Ended octets x = x ≡ (Ended, None)

-- The awaited CR or CC, a TSDU, or a DR or ER (ISO 8073).
abbrev pub Tells : Phase → Tsdu → Phase × Option Event → Type 0
Tells phase (Connect cr) x = x ≡ connect_at phase cr
Tells phase (Data octets) x = TellsData phase octets x
Tells phase Disconnect x = x ≡ (Ended, Some Aborted)

-- what a TSDU of the program holds are octets
abbrev pub HasOctets : Tsdu → Type 0
HasOctets (Connect cr) = Unit {0}
HasOctets (Data octets) = IsBytes octets
HasOctets Disconnect = Unit {0}

-- ---- streams

-- what a TPDU gave, if it gave anything, says this
abbrev pub TellsGiven : Phase → Option Tsdu → Phase × Option Event → Type 0
TellsGiven phase None x = x ≡ (phase, None)
TellsGiven phase (Some tsdu) x = Tells phase tsdu x

-- one TPDU
abbrev pub Goes : Stand → List ℕ → Stand → Option Event → Type 0
Goes s tpdu t e = (given : Option Tsdu) × IsTaken s.transport tpdu t.transport given × TellsGiven s.phase given (t.phase, e)

-- TPDUs in turn, none after the end
abbrev pub GoOn : Stand → List (List ℕ) → List Event → Stand → Type 0
GoOn s [] events t = (events ≡ []) × (t ≡ s)
GoOn s (tpdu ∷ tpdus) events t = (has_ended s.phase ≡ false) × (mid : Stand) × (first : Option Event) × (others : List Event)
    × Goes s tpdu mid first × (events ≡ option_to_list first ++ others) × GoOn mid tpdus others t

-- The octets are whole TPKTs (RFC 1006), whose TPDUs give these events, and the beginning of one more, or, after the end,
-- anything.
pub record Spells (from t : Stand) (rest octets : List ℕ) (events : List Event) : Type 0 where
  pub fits : IsBytes octets
  pub tpdus : List (List ℕ)
  pub whole : octets ≡ flat_map packet tpdus ++ rest
  pub each : AllByRecursion IsTpdu tpdus
  pub go : GoOn from tpdus events t
  pub left : ((has_ended t.phase ≡ false) × IsPartial rest) ⊎ (has_ended t.phase ≡ true)
