-- why `session::Session::ended` answers as its contract says
use Rattle.std.proofs.Common.{◌≡◌, ◌+◌, suc, arith, ap, ◌∙◌}
use Rattle.std.proofs.lemmas.Result.{IfOk-weaker}
use Rattle.script_plans.specs.Inputs.{passed, unended}
use Rattle.script_reading.specs.Readings.{place_of}
use Rattle.script_reading.proofs.RunLaws.{ended-long, ended-short}
use Rattle.script_reading.proofs.session.Session.ended.Goals as goal

pub returns-then-long-clause-status : goal.returns-then-long-clause-status
returns-then-long-clause-status c =
    let next : c.args.self.now.lines + 1 ≡ suc c.args.self.now.lines = omega arith in
    let place = place_of c.args.self.now.stage in
    IfOk-weaker c.passed.result _ _ (λ s h. ended-long s c.args.long c.args.begun (suc c.args.self.now.lines) place c.if-long.true (h ∙ ap (λ n. passed 3 n place) next)) c.passed.ensures.status

pub returns-else-long-clause-status : goal.returns-else-long-clause-status
returns-else-long-clause-status c =
    let next : c.args.self.now.lines + 1 ≡ suc c.args.self.now.lines = omega arith in
    let place = place_of c.args.self.now.stage in
    IfOk-weaker c.unended.result _ _ (λ s h. ended-short s c.args.long c.args.begun (suc c.args.self.now.lines) place c.if-long.false (h ∙ ap (λ n. unended c.args.begun n place) next)) c.unended.ensures.status
