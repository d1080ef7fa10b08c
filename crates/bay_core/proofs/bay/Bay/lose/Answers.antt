-- why `bay::Bay::lose` answers as its contract says
use Rattle.std.proofs.Common.{refl, suc, ap, sym, subst, length, ◌∙◌}
use Rattle.bay_model.specs.declared.step.Step.TheVariants as steps
use Rattle.bay_model.specs.Answers.{points}
use Rattle.bay_model.specs.Named.{configured_model}
use Rattle.bay_core.specs.Standing.{StandsFor}
use Rattle.bay_core.specs.State.{State}
use Rattle.bay_core.proofs.MoveLaws.{accepted-as}
use Rattle.bay_core.proofs.EndLaws.{ends-told, lost-fault, lost-at, yours-told}
use Rattle.bay_core.proofs.bay.Bay.lose.Goals as goal

pub returns-clause-does : goal.returns-clause-does
returns-clause-does c = λ c' h was.
    let st = subst (λ s. StandsFor s c' h) (sym c.self.view_is) was in
    let past = points (configured_model c') h in
    let there = ends-told (configured_model c') c.self.inside.associations.rows past c.args.a.0 c.in-Some.opener c.in-Some-writer.writer st.1.associations c.requires.number (sym c.opener.ensures ∙ c.in-Some.is) (sym c.writer.ensures ∙ c.in-Some-writer.is) in (
      refl,
      accepted-as c.args.self.now c.count.new.self _ c' h (record { moment = c.args.moment; actor = c.args.actor.0; step = steps.Lost c.args.a }) was
          (lost-fault (configured_model c') past c.args.actor.0 c.args.a.0 there.0 there.1
          (rw (there.2, there.3) (yours-told c.args.actor.0 c.in-Some.opener.0 c.in-Some-writer.writer.0 c.else-actor-opener.either)))
          (c.count.ensures ∙ ap (λ (s : State). record s { steps = suc s.steps }) c.end.ensures)
          (lost-at c.arrive.new.self c' (length h) c.args.moment c.args.a past c.requires.number (c.arrive.ensures.stands c' (length h) past was.1)),
    )
