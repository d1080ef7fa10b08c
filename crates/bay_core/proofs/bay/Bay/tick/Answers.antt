-- why `bay::Bay::tick` answers as its contract says
use Rattle.std.proofs.Common.{refl, length}
use Rattle.bay_model.specs.declared.step.Step.TheVariants as steps
use Rattle.bay_model.specs.Answers.{points}
use Rattle.bay_model.specs.Named.{configured_model}
use Rattle.bay_core.proofs.MoveLaws.{still-for}
use Rattle.bay_core.proofs.bay.Bay.tick.Goals as goal

pub returns-clause-does : goal.returns-clause-does
returns-clause-does c = λ c' h st. (
  refl,
  still-for c.args.self.now c.arrive.new.self c.count.new.self c' h (record { moment = c.args.moment; actor = c.args.actor.0; step = steps.Tick })
      (c.arrive.ensures.stands c' (length h) (points (configured_model c') h) st.1) c.count.ensures st refl refl,
)
