-- why `taking::take_one` answers as its contract says
use Rattle.assoc_workers.proofs.WriteLaws.{ends_foreign}
use Rattle.assoc_workers.proofs.taking.take_one.Goals as goal

pub returns-clause-foreign : goal.returns-clause-foreign
returns-clause-foreign g c = ends_foreign g.M.StateMachine.rules c.args.a c.args.pass.now c.make.new.pass c.in-Err.ensures.turned.0 c.in-Err.fault c.refused.result c.refused.ensures c.in-Err.ensures.turned.1
