-- why `stage::Stage::missing` answers as its contract says
use Rattle.std.proofs.Common.{ap, ◌∙◌}
use Rattle.std.proofs.lemmas.Result.{IfOk-weaker}
use Rattle.record_outcome.specs.declared.status.Status.TheVariants as statuses
use Rattle.record_session.proofs.LimitLaws.{missing-opening, missing-playing, missing-configuring}
use Rattle.record_session.proofs.stage.Stage.missing.Goals as goal

pub returns-in-Configuring-clause-status : goal.returns-in-Configuring-clause-status
returns-in-Configuring-clause-status c = IfOk-weaker c.ended_before.result _ _
    (λ s h. missing-configuring c.args.number c.in-Configuring.before c.in-Configuring.text c.deref.result.now s c.args.self.now c.in-Configuring.is c.deref.ensures.value h) c.ended_before.ensures.status

pub returns-in-Opening-clause-status : goal.returns-in-Opening-clause-status
returns-in-Opening-clause-status c = λ place at. ap (statuses.Record c.args.number) c.number.ensures ∙ missing-opening c.args.number c.args.self.now c.in-Opening.is place at

pub returns-in-Playing-clause-status : goal.returns-in-Playing-clause-status
returns-in-Playing-clause-status c = λ place at. ap (statuses.Record c.args.number) c.number.ensures ∙ missing-playing c.args.number c.in-Playing.field-0 c.args.self.now c.in-Playing.is place at
