-- why `session::Session::read_next` answers as its contract says
use Rattle.std.proofs.Common.{◌≡◌, ◌+◌, suc, arith, ap, subst, ◌∙◌}
use Rattle.std.proofs.lemmas.Result.{IfOk-weaker}
use Rattle.record_outcome.specs.Records.{passed, lines_at}
use Rattle.record_session.specs.Sessions.{AdvancesOn}
use Rattle.record_session.proofs.LimitLaws.{over-lines, below-lines}
use Rattle.record_session.proofs.session.Session.read_next.Goals as goal

pub returns-then-number-gt-MOST_LINES-clause-moves :
    goal.returns-then-number-gt-MOST_LINES-clause-moves
returns-then-number-gt-MOST_LINES-clause-moves c =
    let next : c.args.self.now.lines + 1 ≡ suc c.args.self.now.lines = omega arith in
    over-lines c.in_ok-status.status c.args.self.now.stage (suc c.args.self.now.lines) c.args.line.now c.args.out.now.items (omega (arith, c.if-number-gt-MOST_LINES.true))
    (λ place at. c.in_ok-status.ensures.status place at ∙ ap (λ n. passed 1 n place) next)

pub returns-clause-moves : goal.returns-clause-moves
returns-clause-moves c =
    let next : c.args.self.now.lines + 1 ≡ suc c.args.self.now.lines = omega arith in
    IfOk-weaker c.read.result _ _ (λ s h. below-lines s c.args.self.now.stage c.read.new.self (suc c.args.self.now.lines) c.args.line.now c.args.out.now.items c.read.new.out.items
    (omega (arith, c.if-number-gt-MOST_LINES.false))
    (subst (λ n. AdvancesOn s c.args.self.now.stage c.read.new.self (λ place. lines_at n place c.args.line.now) c.args.out.now.items c.read.new.out.items) next h)) c.read.ensures.moves

pub returns-clause-judged : goal.returns-clause-judged
returns-clause-judged c = c.read.ensures.judged

pub returns-clause-few : goal.returns-clause-few
returns-clause-few c = c.read.ensures.few

pub returns-clause-early : goal.returns-clause-early
returns-clause-early c = c.read.ensures.early
