-- why `stage::Stage::passed` answers as its contract says
use Rattle.std.proofs.lemmas.Result.{IfOk-weaker}
use Rattle.record_session.proofs.LimitLaws.{passed-opening, passed-playing, passed-configuring}
use Rattle.record_session.proofs.stage.Stage.passed.Goals as goal

pub returns-in-Configuring-clause-status : goal.returns-in-Configuring-clause-status
returns-in-Configuring-clause-status c = IfOk-weaker c.refused_before.result _ _
    (λ s h. passed-configuring c.args.which c.args.number c.in-Configuring.before c.in-Configuring.text c.deref.result.now s c.args.self.now c.in-Configuring.is c.deref.ensures.value h) c.refused_before.ensures.status

pub returns-in-Opening-clause-status : goal.returns-in-Opening-clause-status
returns-in-Opening-clause-status c = passed-opening c.args.which c.args.number c.args.self.now c.in-Opening.is

pub returns-in-Playing-clause-status : goal.returns-in-Playing-clause-status
returns-in-Playing-clause-status c = passed-playing c.args.which c.args.number c.in-Playing.field-0 c.args.self.now c.in-Playing.is
