-- why `loading::Loading::perform` answers as its contract says
use Rattle.std.proofs.Common.{refl, sym, subst, ap, ◌∙◌}
use Rattle.std.specs.Prelude.{Ok}
use Rattle.bay_core.specs.State.{State}
use Rattle.bay_core.specs.Turns.{Does}
use Rattle.load_run.proofs.LineLaws.{moves-step}
use Rattle.load_run.proofs.loading.Loading.perform.Goals as goal

pub returns-in-Ok : goal.returns-in-Ok
returns-in-Ok c = λ went.
    moves-step c.args.self.now (record c.args.self.now { bay = c.reuse.new.self; summary = c.count.new.self }) c.args.actor.0 c.args.step.now c.in-Ok.answer refl refl
    (subst (λ b. Does c.args.self.now.bay b (record { moment = c.args.self.now.moment; actor = c.args.actor.0; step = c.args.step.now }) (Ok c.in-Ok.answer)) (sym c.reuse.ensures) c.in-Ok.ensures.does)
    (ap (λ (b : State). b.steps) c.reuse.ensures ∙ c.in-Ok.ensures.counted.1) c.count.ensures
