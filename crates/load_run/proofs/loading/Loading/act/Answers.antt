-- why `loading::Loading::act` answers as its contract says
use Rattle.std.proofs.Common.{sym, subst}
use Rattle.std.proofs.lemmas.Result.{IfOk-weaker}
use Rattle.record_steps.specs.Telling.{telling}
use Rattle.load_run.specs.Loads.{Moves, IsFitting}
use Rattle.load_run.proofs.LineLaws.{moves-none, moves-moment}
use Rattle.load_run.proofs.loading.Loading.act.Goals as goal

pub perform-requires-clause-fits : goal.perform-requires-clause-fits
perform-requires-clause-fits c = subst (λ t. IsFitting c.args.self.now.bay.config t c.args.slot.now) c.in-Step.is c.requires.fits

pub returns-in-Nothing : goal.returns-in-Nothing
returns-in-Nothing c = λ went heard. subst (λ t. Moves c.args.self.now c.args.self.now (telling t c.args.slot.now heard)) (sym c.in-Nothing.is) (moves-none c.args.self.now c.args.slot.now heard)

pub returns-in-At : goal.returns-in-At
returns-in-At c = λ went heard. subst (λ t. Moves c.args.self.now (record c.args.self.now { moment = c.in-At.moment }) (telling t c.args.slot.now heard)) (sym c.in-At.is)
    (moves-moment c.args.self.now c.in-At.moment c.args.slot.now heard)

pub returns-in-Step : goal.returns-in-Step
returns-in-Step c = IfOk-weaker c.perform.result _ _
    (λ went moves yes heard. subst (λ t. Moves c.args.self.now c.perform.new.self (telling t c.args.slot.now heard)) (sym c.in-Step.is) (moves yes)) c.perform.ensures
