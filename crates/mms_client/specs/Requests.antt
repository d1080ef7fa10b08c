-- What a client asks, and the octets that it writes for that (ISO 9506-2, Confirmed-RequestPDU).
use Rattle.std.specs.Prelude.{ℕ, suc, ◌+◌, ◌%◌, List, [], ◌∷◌, ◌++◌}
use Rattle.tpkt_cotp.specs.Written.{call_of, tsdu_of}
use Rattle.session_pres.specs.declared.codes.TheConstants.{FINISH}
use Rattle.session_pres.specs.Written.{release_spdu}
use Rattle.acse_apdu.specs.declared.codes.TheConstants.{RLRQ}
use Rattle.acse_apdu.specs.Written.{release_octets}
use Rattle.sv_base.specs.declared.value.Value.{Value}
use Rattle.mms_pdu.specs.AskingOctets.{read_request, write_request, conclude_request}
use Rattle.osi_stack.specs.declared.events.Line.{Line}
use Rattle.osi_stack.specs.Calling.{request_spdu}
use Rattle.osi_stack.specs.Framed.{framed}

-- a request for a variable, by its domain and item
pub data Request : Type 0 where
  reading : (domain item : List ℕ) → Request
  writing : (domain item : List ℕ) → Value → Request

-- the invoke number after a count of requests: from 1, and again from 1 after 4294967295
abbrev pub number_after : ℕ → ℕ
number_after count = count % 4294967295 + 1

-- the minimal spelling of a request under a number
abbrev pub pdu_of : ℕ → Request → List ℕ
pdu_of invoke (reading d i) = read_request invoke d i
pdu_of invoke (writing d i v) = write_request invoke d i v

-- a request after a count of others
abbrev pub request_octets : Line → ℕ → Request → List ℕ
request_octets line count r = framed line (pdu_of (number_after count) r)

abbrev pub requests_octets : Line → ℕ → List Request → List ℕ
requests_octets line count [] = []
requests_octets line count (r ∷ rs) = request_octets line count r ++ requests_octets line (suc count) rs

-- the CN, which proposes PDUs of 65000 octets, and the CR before it
abbrev pub connect_octets : ℕ → List ℕ
connect_octets exponent = tsdu_of exponent (request_spdu 65000)

abbrev pub opening_octets : Line → List ℕ
opening_octets line = call_of 1 ++ connect_octets line.exponent

-- all that a client wrote that made these requests
abbrev pub octets_written : Line → List Request → List ℕ
octets_written line requests = opening_octets line ++ requests_octets line 0 requests

-- the request to conclude, and the FN
abbrev pub conclude_octets : Line → List ℕ
conclude_octets line = framed line conclude_request

abbrev pub finish_octets : Line → List ℕ
finish_octets line = tsdu_of line.exponent (release_spdu FINISH 1 (release_octets RLRQ))
