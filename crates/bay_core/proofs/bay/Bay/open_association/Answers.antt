-- why `bay::Bay::open_association` answers as its contract says
use Rattle.std.proofs.Common.{refl, suc, ap, sym, subst, false, length, ◌∙◌, ◌≡◌}
use Rattle.std.specs.Prelude.{is_some}
use Rattle.bay_model.specs.declared.step.Step.TheVariants as steps
use Rattle.bay_model.specs.Answers.{points}
use Rattle.bay_model.specs.Associations.{ends}
use Rattle.bay_model.specs.Named.{configured_model}
use Rattle.bay_core.specs.Standing.{StandsFor}
use Rattle.assoc_table.specs.Tables.{row_of}
use Rattle.bay_core.specs.State.{State}
use Rattle.bay_core.specs.Timed.{at_arrival}
use Rattle.bay_core.proofs.MoveLaws.{accepted-as}
use Rattle.bay_core.proofs.EndLaws.{none-enabled, open-told, open-fault, opened-at}
use Rattle.bay_core.proofs.bay.Bay.open_association.Goals as goal
use Rattle.list_laws.proofs.Options.{none_of}

pub start-requires-clause-closed : goal.start-requires-clause-closed
start-requires-clause-closed c =
    let none = none_of (row_of c.self.inside.associations.rows c.args.a.0).ends (sym c.is_open.ensures ∙ c.if-is_open.false) in
    ap (λ (s : State). (row_of s.rows c.args.a.0).ends) (c.arrive.ensures.state ∙ sym (ap (at_arrival c.args.moment) c.self.view_is)) ∙ none

pub returns-clause-does : goal.returns-clause-does
returns-clause-does c = λ c' h was.
    let st = subst (λ s. StandsFor s c' h) (sym c.self.view_is) was in
    let past = points (configured_model c') h in
    let shut : is_some (ends c.args.a.0 past) ≡ false = sym (open-told (configured_model c') c.self.inside.associations.rows past c.args.a.0 st.1.associations c.requires.number) ∙ (sym c.is_open.ensures ∙ c.if-is_open.false) in (
      refl,
      accepted-as c.args.self.now c.count.new.self _ c' h (record { moment = c.args.moment; actor = c.args.actor.0; step = steps.Open c.args.a c.args.size c.args.writer c.args.owner }) was
          (open-fault past c.args.a.0 shut)
          (c.count.ensures ∙ ap (λ (s : State). record s { steps = suc s.steps }) c.start.ensures)
          (opened-at c.arrive.new.self c' (length h) c.args.moment c.args.a.0 (record { opener = c.args.actor; writer = c.args.writer; size = c.args.size; owner = c.args.owner }) past c.requires.number (none-enabled (configured_model c') h c.args.a.0 was.0 shut) (c.arrive.ensures.stands c' (length h) past was.1)),
    )
