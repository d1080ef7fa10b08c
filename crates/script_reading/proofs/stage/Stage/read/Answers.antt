-- why `stage::Stage::read` answers as its contract says
use Rattle.std.proofs.Common.{◌≡◌, true, false, sym, ap, subst, ◌∙◌, rules}
use Rattle.std.specs.Prelude.{codes}
use Rattle.std.specs.Str.{bytes_eq}
use Rattle.cfg_parser.specs.Looking.{config_at}
use Rattle.script_plans.specs.Openings.{started}
use Rattle.script_reading.specs.Readings.{place_of, Moved}
use Rattle.script_reading.proofs.StageLaws.{gathered, whole-text}
use Rattle.script_reading.proofs.stage.Stage.read.Goals as goal

pub returns-then-not-branch-clause-moves : goal.returns-then-not-branch-clause-moves
returns-then-not-branch-clause-moves c =
    let last : bytes_eq c.args.line.now (codes "end") ≡ false = search rules in
    gathered c.args.number c.in-Configuring.before c.in-Configuring.text c.args.self.now c.args.line.now c.gather.new.text.items c.in-Configuring.is c.in_ok-gather-in-Configuring.ensures.text last

pub returns-in_ok-started-in-Configuring-clause-moves :
    goal.returns-in_ok-started-in-Configuring-clause-moves
returns-in_ok-started-in-Configuring-clause-moves c =
    let last : bytes_eq c.args.line.now (codes "end") ≡ true = search rules in
    let whole = c.replace-whole.result.items in
    let is = whole-text c.args.number c.in-Configuring.before c.in-Configuring.text c.args.self.now c.args.line.now whole c.in-Configuring.is (ap (λ v. v.items) c.replace-whole.ensures.value ∙ c.in_ok-gather-in-Configuring.ensures.text) last in
    subst (Moved c.settle.result (place_of c.settle.new.self)) (sym is) (c.settle.ensures.moves (started c.in-Configuring.before whole (config_at whole)) c.in_ok-started-in-Configuring.ensures.starts)
