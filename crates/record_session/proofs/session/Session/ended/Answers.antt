-- why `session::Session::ended` answers as its contract says
use Rattle.std.proofs.Common.{◌≡◌, ◌+◌, suc, arith}
use Rattle.std.proofs.lemmas.Result.{IfOk-weaker}
use Rattle.record_session.proofs.LimitLaws.{ended-long, ended-short}
use Rattle.record_session.proofs.session.Session.ended.Goals as goal

pub returns-then-long-clause-status : goal.returns-then-long-clause-status
returns-then-long-clause-status c =
    let next : c.args.self.now.lines + 1 ≡ suc c.args.self.now.lines = omega arith in
    IfOk-weaker c.passed.result _ _ (λ s h. λ place at. ended-long s c.args.long c.args.begun (c.args.self.now.lines + 1) (suc c.args.self.now.lines) place c.if-long.true next (h place at)) c.passed.ensures.status

pub returns-else-long-clause-status : goal.returns-else-long-clause-status
returns-else-long-clause-status c =
    let next : c.args.self.now.lines + 1 ≡ suc c.args.self.now.lines = omega arith in
    IfOk-weaker c.unended.result _ _ (λ s h. λ place at. ended-short s c.args.long c.args.begun (c.args.self.now.lines + 1) (suc c.args.self.now.lines) place c.if-long.false next (h place at)) c.unended.ensures.status
