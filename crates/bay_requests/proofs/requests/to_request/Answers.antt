-- why `requests::to_request` answers as its contract says
use Rattle.std.proofs.Common.{sym, ◌∙◌}
use Rattle.mms_pdu.specs.Request.{request_octets}
use Rattle.mms_pdu.specs.View.{asked}
use Rattle.bay_requests.proofs.RequestFits.{request-fits}
use Rattle.bay_requests.proofs.requests.to_request.Goals as goal

pub returns-clause-fits : goal.returns-clause-fits
returns-clause-fits c =
    request-fits c.args.model.now (request_octets (asked c.args.view)) c.in-Some.request c.requires.spelled (sym c.in-Some.is ∙ c.in_ok-request.ensures)
