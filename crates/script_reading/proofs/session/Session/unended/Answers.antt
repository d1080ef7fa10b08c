-- why `session::Session::unended` answers as its contract says
use Rattle.std.proofs.lemmas.Result.{IfOk-weaker}
use Rattle.script_reading.specs.Readings.{place_of}
use Rattle.script_reading.proofs.RunLaws.{unended-over, unended-missing}
use Rattle.script_reading.proofs.session.Session.unended.Goals as goal

pub returns-then-is_over-clause-status : goal.returns-then-is_over-clause-status
returns-then-is_over-clause-status c =
    IfOk-weaker c.passed.result _ _ (λ s h. unended-over s c.args.begun c.is_over.result c.args.number (place_of c.args.self.now.stage) c.is_over.ensures c.if-is_over.true h) c.passed.ensures.status

pub returns-else-is_over-clause-status : goal.returns-else-is_over-clause-status
returns-else-is_over-clause-status c =
    IfOk-weaker c.missing.result _ _ (λ s h. unended-missing s c.args.begun c.is_over.result c.args.number (place_of c.args.self.now.stage) c.is_over.ensures c.if-is_over.false h) c.missing.ensures.status
