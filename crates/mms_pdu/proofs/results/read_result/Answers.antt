-- why `results::read_result` answers as its contract says
use Rattle.std.proofs.Common.{arith}
use Rattle.ber_grammar.specs.Place.{piece}
use Rattle.mms_pdu.proofs.ResultLaws.{read_says, read_nothing}
use Rattle.mms_pdu.proofs.results.read_result.Goals as goal

pub returns-clause-says : goal.returns-clause-says
returns-clause-says c = read_says c.read_in.result (piece c.args.body) (λ i. omega (arith, c.type_inv.body i)) c.read_in.ensures

pub returns-clause-nothing : goal.returns-clause-nothing
returns-clause-nothing c = read_nothing c.read_in.result (piece c.args.body) (λ i. omega (arith, c.type_inv.body i)) c.read_in.ensures
