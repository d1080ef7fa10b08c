-- why `requests::read_request` answers as its contract says
use Rattle.std.proofs.Common.{arith}
use Rattle.bay_requests.proofs.RequestFits.{read-spelled, read-refused, read-fits}
use Rattle.bay_requests.proofs.requests.read_request.Goals as goal

pub returns-clause-spelled : goal.returns-clause-spelled
returns-clause-spelled c x is =
    read-spelled c.args.model.now c.args.bytes.now (λ k. omega (arith, c.type_inv.bytes k)) c.read_pdu.result x is c.read_pdu.ensures

pub returns-clause-refused : goal.returns-clause-refused
returns-clause-refused c f is =
    read-refused c.args.model.now c.args.bytes.now (λ k. omega (arith, c.type_inv.bytes k)) c.read_pdu.result f is c.read_pdu.ensures

pub returns-clause-fits : goal.returns-clause-fits
returns-clause-fits c = read-fits c.args.model.now c.args.bytes.now (λ k. omega (arith, c.type_inv.bytes k)) c.read_pdu.result c.read_pdu.ensures
