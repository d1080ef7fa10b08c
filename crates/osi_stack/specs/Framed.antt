-- What is sent on a connection.
use Rattle.std.specs.Prelude.{ℕ, List}
use Rattle.tpkt_cotp.specs.Written.{tsdu_of}
use Rattle.session_pres.specs.Written.{data_spdu}
use Rattle.osi_stack.specs.declared.events.Line.{Line}

-- the octets of a PDU of MMS
abbrev pub framed : Line → List ℕ → List ℕ
framed line pdu = tsdu_of line.exponent (data_spdu line.context pdu)
