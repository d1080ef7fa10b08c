-- why `reading::request` answers as its contract says
use Rattle.std.proofs.Common.{arith}
use Rattle.ber_grammar.specs.Place.{piece}
use Rattle.mms_pdu.specs.View.{asked}
use Rattle.mms_pdu.proofs.RequestLaws.{request_reads, request_gives}
use Rattle.mms_pdu.proofs.reading.request.Goals as goal

pub returns-clause-reads : goal.returns-clause-reads
returns-clause-reads c = request_reads asked _ (piece c.args.bytes) (λ i. omega (arith, c.type_inv.bytes i)) c.read_request.ensures

pub returns-clause-exact : goal.returns-clause-exact
returns-clause-exact c = request_gives asked _ (piece c.args.bytes) (λ i. omega (arith, c.type_inv.bytes i)) c.read_request.ensures
