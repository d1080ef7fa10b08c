-- why `results::write_result` answers as its contract says
use Rattle.std.proofs.Common.{arith}
use Rattle.ber_grammar.specs.Place.{piece}
use Rattle.mms_pdu.proofs.ResultLaws.{written_says, written_nothing}
use Rattle.mms_pdu.proofs.results.write_result.Goals as goal

pub returns-clause-says : goal.returns-clause-says
returns-clause-says c = written_says c.written_in.result (piece c.args.body) (λ i. omega (arith, c.type_inv.body i)) c.written_in.ensures

pub returns-clause-nothing : goal.returns-clause-nothing
returns-clause-nothing c = written_nothing c.written_in.result (piece c.args.body) c.written_in.ensures
