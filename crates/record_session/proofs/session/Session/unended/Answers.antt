-- why `session::Session::unended` answers as its contract says
use Rattle.std.proofs.lemmas.Result.{IfOk-weaker}
use Rattle.record_session.proofs.LimitLaws.{unended-over, unended-missing}
use Rattle.record_session.proofs.session.Session.unended.Goals as goal

pub returns-then-is_over-clause-status : goal.returns-then-is_over-clause-status
returns-then-is_over-clause-status c =
    IfOk-weaker c.passed.result _ _ (λ s h. λ place at. unended-over s c.args.begun c.is_over.result c.args.number place c.is_over.ensures c.if-is_over.true (h place at)) c.passed.ensures.status

pub returns-else-is_over-clause-status : goal.returns-else-is_over-clause-status
returns-else-is_over-clause-status c =
    IfOk-weaker c.missing.result _ _ (λ s h. λ place at. unended-missing s c.args.begun c.is_over.result c.args.number place c.is_over.ensures c.if-is_over.false (h place at)) c.missing.ensures.status
