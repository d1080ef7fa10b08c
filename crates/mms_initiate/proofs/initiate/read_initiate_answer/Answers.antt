-- why `initiate::read_initiate_answer` answers as its contract says
use Rattle.std.proofs.Common.{arith}
use Rattle.mms_initiate.proofs.InitiateLaws.{initiate_reads}
use Rattle.mms_initiate.proofs.initiate.read_initiate_answer.Goals as goal

pub returns-clause-reads : goal.returns-clause-reads
returns-clause-reads c = initiate_reads (λ x. x) _ 169 c.args.bytes.now (λ i. omega (arith, c.type_inv.bytes i)) c.read_tagged.ensures
