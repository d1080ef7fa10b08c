-- why `bay::Bay::block_control` answers as its contract says
use Rattle.std.proofs.Common.{◌<◌, ◌∙◌, refl, suc, ap, sym, subst, length}
use Rattle.bay_model.specs.declared.step.Step.TheVariants as steps
use Rattle.bay_model.specs.Answers.{points}
use Rattle.bay_model.specs.Named.{configured_model}
use Rattle.bay_core.specs.State.{State}
use Rattle.bay_core.proofs.MoveLaws.{accepted-as}
use Rattle.bay_core.proofs.ProcessLaws.{blocked-at}
use Rattle.bay_core.proofs.bay.Bay.block_control.Goals as goal

pub block-requires : goal.block-requires
block-requires c = subst (λ (t : State). c.args.control.0 < length t.config.controls) (sym c.arrive.ensures.state) c.requires.control

pub returns-clause-does : goal.returns-clause-does
returns-clause-does c = λ c' h st. (
  refl,
  accepted-as c.args.self.now c.count.new.self _ c' h (record { moment = c.args.moment; actor = c.args.actor.0; step = steps.Block c.args.control c.args.on }) st refl
      (c.count.ensures ∙ ap (λ (s : State). record s { steps = suc s.steps }) c.block.ensures)
      (blocked-at c.arrive.new.self c' (length h) c.args.moment c.args.control.0 c.args.on (points (configured_model c') h)
      (c.arrive.ensures.stands c' (length h) (points (configured_model c') h) st.1)),
)
