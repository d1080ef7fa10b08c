-- why `stage::Stage::open` answers as its contract says
use Rattle.record_session.proofs.StageLaws.{opens-head}
use Rattle.record_session.proofs.stage.Stage.open.Goals as goal

pub returns-in-Head-clause-moves : goal.returns-in-Head-clause-moves
returns-in-Head-clause-moves c = opens-head c.enter.new.self c.args.number c.new.result c.args.line.now _ c.enter.ensures c.new.ensures.items c.in-Head.is c.in_ok-open.ensures
