-- why `playing::Playing::perform` answers as its contract says
use Rattle.std.proofs.Common.{◌++◌, ap, refl, sym, subst, ◌∙◌}
use Rattle.std.specs.Prelude.{Ok}
use Rattle.bay_core.specs.State.{State}
use Rattle.bay_core.specs.Turns.{Does}
use Rattle.answer_text.specs.Texts.{lines_of}
use Rattle.record_session.proofs.PlayLaws.{on_err, performs, performs-stop, faultless-answered, faultless-memory}
use Rattle.record_session.proofs.playing.Playing.perform.Goals as goal

pub returns-in_ok-written-in-Ok-clause-performs : goal.returns-in_ok-written-in-Ok-clause-performs
returns-in_ok-written-in-Ok-clause-performs c =
    performs c.args.self.now (record c.args.self.now { bay = c.reuse.new.self }) c.args.number c.args.shape c.args.actor.0 c.args.step.now c.in-Ok.answer c.args.out.now.items c.lines_of-written.new.out.items refl refl
    (subst (λ b. Does c.args.self.now.bay b (record { moment = c.args.self.now.moment; actor = c.args.actor.0; step = c.args.step.now }) (Ok c.in-Ok.answer)) (sym c.reuse.ensures) c.in-Ok.ensures.does)
    (c.in_ok-written-in-Ok.ensures.ok ∙ ap (λ k. c.args.out.now.items ++ lines_of k c.args.shape c.args.step.now c.in-Ok.answer) (c.model-in-Ok.ensures.model ∙ sym (ap (λ (b : State). b.config) c.reuse.ensures)))

pub returns-in_err-written-in-Ok-clause-faultless : goal.returns-in_err-written-in-Ok-clause-faultless
returns-in_err-written-in-Ok-clause-faultless c =
    on_err c.from_residual-in_err-written-in-Ok.result _ (faultless-answered c.args.self.now c.args.actor.0 c.args.step.now c.in-Ok.answer c.step.new.self c.in-Ok.ensures.does)

pub returns-in-Some-clause-performs : goal.returns-in-Some-clause-performs
returns-in-Some-clause-performs c =
    performs-stop c.args.self.now (record c.args.self.now { bay = c.step.new.self }) c.args.number c.args.shape c.args.actor.0 c.args.step.now c.in-Err.fault c.step.new.self c.in-Some.status c.args.out.now.items c.in-Err.ensures.does
    (sym c.stop.ensures.status ∙ c.in-Some.is)

pub returns-in-None-clause-faultless : goal.returns-in-None-clause-faultless
returns-in-None-clause-faultless c =
    faultless-memory c.args.self.now c.args.number c.args.actor.0 c.args.step.now c.in-Err.fault c.step.new.self c.in-Err.ensures.does (sym c.stop.ensures.status ∙ c.in-None.is)
