-- What a TSDU does to a connection: the next phase and perhaps an event, or a refusal.
use Rattle.std.specs.Prelude.{ℕ, List, Option, Some, None, Ok, Err}
use Rattle.tpkt_cotp.specs.declared.tsdus.Cr.{Cr}
use Rattle.tpkt_cotp.specs.declared.tsdus.Tsdu.{Tsdu}
use Rattle.tpkt_cotp.specs.declared.tsdus.Tsdu.TheVariants.{Connect, Data, Disconnect}
use Rattle.tpkt_cotp.specs.declared.fault.TpFault.TheVariants as transport
use Rattle.tpkt_cotp.specs.Written.{confirm_of, tsdu_of}
use Rattle.osi_stack.specs.declared.events.Event.{Event}
use Rattle.osi_stack.specs.declared.events.Event.TheVariants.{Answer, Aborted}
use Rattle.osi_stack.specs.declared.phase.Phase.{Phase}
use Rattle.osi_stack.specs.declared.phase.Phase.TheVariants.{Idle, Called, Open, Calling, Asking, Joined, Ended}
use Rattle.osi_stack.specs.Causes.{of_transport}
use Rattle.osi_stack.specs.Lines.{exponent_of, exponent_left}
use Rattle.osi_stack.specs.Called.{Outcome, called_at, open_at}
use Rattle.osi_stack.specs.Calling.{request_spdu, asking_at, joined_at}

-- a CR is answered by a CC
abbrev pub confirmed : Cr → Phase × Option Event
confirmed cr = (Called (exponent_of cr), Some (Answer (confirm_of cr)))

-- The connection: where this side calls, a CC has come, and is answered by the CONNECT. It comes once, as the transport
-- has it.
unfoldable pub connect_at : Phase → Cr → Phase × Option Event
connect_at (Calling size) cr = (Asking (exponent_left cr) size, Some (Answer (tsdu_of (exponent_left cr) (request_spdu size))))
connect_at Idle cr = confirmed cr
connect_at (Called exponent) cr = confirmed cr
connect_at (Open line acse) cr = confirmed cr
connect_at (Asking exponent size) cr = confirmed cr
connect_at (Joined line) cr = confirmed cr
connect_at Ended cr = confirmed cr

-- Data come only after the connection, and none after the end.
unfoldable pub data_at : Phase → List ℕ → Outcome
data_at Idle octets = Err (of_transport transport.Sequence)
data_at (Calling size) octets = Err (of_transport transport.Sequence)
data_at (Called exponent) octets = called_at exponent octets
data_at (Open line acse) octets = open_at line acse octets
data_at (Asking exponent size) octets = asking_at exponent size octets
data_at (Joined line) octets = joined_at line octets
data_at Ended octets = Ok (Ended, None)

-- A DR and an ER end the association wherever they come.
unfoldable pub tsdu_at : Phase → Tsdu → Outcome
tsdu_at phase (Connect cr) = Ok (connect_at phase cr)
tsdu_at phase (Data octets) = data_at phase octets
tsdu_at phase Disconnect = Ok (Ended, Some Aborted)
