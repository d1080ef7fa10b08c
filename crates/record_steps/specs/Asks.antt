-- What a PDU of an association of MMS asks of a bay.
use Rattle.std.specs.Prelude.{ℕ, List, Option}
use Rattle.sv_base.specs.declared.config.Config.{Config}
use Rattle.mms_pdu.specs.RequestReading.{request_at}
use Rattle.bay_model.specs.declared.request.Request.{Request}
use Rattle.bay_requests.specs.Requests.{request_told}

-- the request of a PDU, a rejection of it among them; none where a client asks nothing with it
abbrev pub asked_by : Config → List ℕ → Option Request
asked_by c octets = request_told c (request_at octets)
