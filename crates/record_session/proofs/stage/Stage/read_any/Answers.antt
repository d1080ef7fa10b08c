-- why `stage::Stage::read_any` answers as its contract says
use Rattle.std.proofs.Common.{◌≡◌, ◌≤◌, ◌+◌, suc, length, true, false, refl, sym, subst, rules}
use Rattle.std.specs.Prelude.{codes, IfNone}
use Rattle.std.specs.Str.{bytes_eq}
use Rattle.std.proofs.lemmas.Result.{IfOk-weaker}
use Rattle.cfg_parser.specs.Looking.{config_at}
use Rattle.record_outcome.specs.Openings.{started}
use Rattle.record_session.specs.Plays.{Starts}
use Rattle.record_session.specs.Sessions.{steps_in}
use Rattle.record_session.specs.declared.stage.Stage.TheVariants as stages
use Rattle.record_session.proofs.StageLaws.{on-opening, on-gathered, on-started, on-playing, few-none}
use Rattle.record_session.proofs.stage.Stage.read_any.Goals as goal

pub returns-then-not-branch-clause-moves : goal.returns-then-not-branch-clause-moves
returns-then-not-branch-clause-moves c =
    let last : bytes_eq c.args.line.now (codes "end") ≡ false = search rules in
    on-gathered c.in-Configuring.before c.in-Configuring.text c.gather.new.text c.args.self.now (stages.Configuring c.in-Configuring.before c.gather.new.text) c.args.number c.args.line.now c.args.out.now.items
    c.in-Configuring.is refl c.in_ok-gather-in-Configuring.ensures.text last

pub returns-in-Opening-clause-moves : goal.returns-in-Opening-clause-moves
returns-in-Opening-clause-moves c = IfOk-weaker c.open.result _ _
    (λ s o. on-opening s c.args.self.now c.open.new.self c.args.number c.args.line.now c.args.out.now.items c.in-Opening.is o) c.open.ensures.moves

pub returns-in-Opening-clause-judged : goal.returns-in-Opening-clause-judged
returns-in-Opening-clause-judged c = c.open.ensures.judged

pub returns-in-Opening-clause-few : goal.returns-in-Opening-clause-few
returns-in-Opening-clause-few c = IfOk-weaker c.open.result _ _ (λ s h. few-none s (steps_in c.open.new.self) (steps_in c.args.self.now + length c.args.line.now) h) c.open.ensures.few

pub returns-in-Opening-clause-early : goal.returns-in-Opening-clause-early
returns-in-Opening-clause-early c = c.open.ensures.early

pub returns-in_ok-started-in-Configuring-clause-moves :
    goal.returns-in_ok-started-in-Configuring-clause-moves
returns-in_ok-started-in-Configuring-clause-moves c =
    let last : bytes_eq c.args.line.now (codes "end") ≡ true = search rules in
    let starts = subst (λ o. Starts c.in_ok-started-in-Configuring.started (started c.in-Configuring.before (config_at o))) c.deref.ensures.value c.in_ok-started-in-Configuring.ensures.starts in
    on-started c.in-Configuring.before c.in-Configuring.text c.gather.new.text.items c.settle.result c.args.self.now c.settle.new.self c.args.number c.args.line.now c.args.out.now.items c.in-Configuring.is
    c.in_ok-gather-in-Configuring.ensures.text last (c.settle.ensures.settles (started c.in-Configuring.before (config_at c.gather.new.text.items)) starts)

pub returns-in-Playing-clause-moves : goal.returns-in-Playing-clause-moves
returns-in-Playing-clause-moves c = IfOk-weaker c.read.result _ _
    (λ s h. on-playing s c.in-Playing.playing c.read.new.self c.args.self.now (stages.Playing c.read.new.self) c.args.number c.args.line.now c.args.out.now.items c.read.new.out.items c.in-Playing.is refl h) c.read.ensures.plays

pub returns-in-Playing-clause-judged : goal.returns-in-Playing-clause-judged
returns-in-Playing-clause-judged c = c.read.ensures.judged

pub returns-in-Playing-clause-few : goal.returns-in-Playing-clause-few
returns-in-Playing-clause-few c = IfOk-weaker c.read.result _ _ (λ s h. subst (λ o. IfNone s (c.read.new.self.bay.steps ≤ suc (steps_in o + length c.args.line.now))) (sym c.in-Playing.is) h) c.read.ensures.few
