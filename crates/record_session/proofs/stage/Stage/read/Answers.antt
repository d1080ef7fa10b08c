-- why `stage::Stage::read` answers as its contract says
use Rattle.std.proofs.Common.{◌≤◌, ◌+◌, suc, length, refl, sym, subst}
use Rattle.std.specs.Prelude.{IfNone}
use Rattle.std.proofs.lemmas.Result.{IfOk-weaker}
use Rattle.record_session.specs.Sessions.{steps_in}
use Rattle.record_session.specs.declared.stage.Stage.TheVariants as stages
use Rattle.record_session.proofs.StageLaws.{on-playing}
use Rattle.record_session.proofs.stage.Stage.read.Goals as goal

pub returns-in-Playing-clause-moves : goal.returns-in-Playing-clause-moves
returns-in-Playing-clause-moves c = IfOk-weaker c.read.result _ _
    (λ s h. on-playing s c.in-Playing.playing c.read.new.self c.args.self.now (stages.Playing c.read.new.self) c.args.number c.args.line.now c.args.out.now.items c.read.new.out.items c.in-Playing.is refl h) c.read.ensures.plays

pub returns-in-Playing-clause-judged : goal.returns-in-Playing-clause-judged
returns-in-Playing-clause-judged c = c.read.ensures.judged

pub returns-in-Playing-clause-few : goal.returns-in-Playing-clause-few
returns-in-Playing-clause-few c = IfOk-weaker c.read.result _ _ (λ s h. subst (λ o. IfNone s (c.read.new.self.bay.steps ≤ suc (steps_in o + length c.args.line.now))) (sym c.in-Playing.is) h) c.read.ensures.few
