-- why `session::Session::read` answers as its contract says
use Rattle.std.proofs.Common.{◌≡◌, ◌+◌, suc, arith, sym, ap, subst, ◌∙◌}
use Rattle.std.proofs.lemmas.Result.{IfOk-weaker}
use Rattle.script_plans.specs.Inputs.{passed, lines_at}
use Rattle.script_reading.specs.Readings.{place_of, Moved}
use Rattle.script_plans.proofs.LineLaws.{below-lines}
use Rattle.script_reading.proofs.RunLaws.{over-lines}
use Rattle.script_reading.proofs.session.Session.read.Goals as goal

pub returns-then-number-gt-MOST_LINES-clause-moves :
    goal.returns-then-number-gt-MOST_LINES-clause-moves
returns-then-number-gt-MOST_LINES-clause-moves c =
    let next : c.args.self.now.lines + 1 ≡ suc c.args.self.now.lines = omega arith in
    let place = place_of c.args.self.now.stage in
    over-lines c.in_ok-status.status (suc c.args.self.now.lines) place c.args.line.now (omega (arith, c.if-number-gt-MOST_LINES.true)) (c.in_ok-status.ensures.status ∙ ap (λ n. passed 1 n place) next)

pub returns-clause-moves : goal.returns-clause-moves
returns-clause-moves c =
    let next : c.args.self.now.lines + 1 ≡ suc c.args.self.now.lines = omega arith in
    let place = place_of c.args.self.now.stage in
    let now = place_of c.read.new.self in
    IfOk-weaker c.read.result _ _
    (λ n h. subst (Moved n now) (sym (below-lines (suc c.args.self.now.lines) place c.args.line.now (omega (arith, c.if-number-gt-MOST_LINES.false)))) (subst (λ k. Moved n now (lines_at k place c.args.line.now)) next h))
    c.read.ensures.moves
