-- why `bay::Bay::take` answers as its contract says
use Rattle.std.proofs.Common.{◌≡◌, ◌∙◌, None, suc, length, refl, sym, subst, ap, vec_capacity}
use Rattle.std.specs.Option.{option_map}
use Rattle.bay_model.specs.declared.step.Step.TheVariants as steps
use Rattle.bay_model.specs.Answers.{points}
use Rattle.bay_model.specs.Named.{configured_model}
use Rattle.assoc_table.specs.declared.waiting.Ends.{Ends}
use Rattle.assoc_table.specs.Tables.{row_of}
use Rattle.object_model.specs.Nodes.{node_rows}
use Rattle.bay_config.specs.Servable.{IsServable}
use Rattle.bay_queues.specs.Queued.{Queued, configs}
use Rattle.bay_queues.specs.Taken.{after_take, oldest}
use Rattle.bay_core.specs.Standing.{StandsFor}
use Rattle.bay_core.specs.State.{State}
use Rattle.bay_core.specs.Timed.{at_arrival}
use Rattle.bay_core.specs.Turns.{Does}
use Rattle.bay_core.proofs.ArriveLaws.{HasAll, arrives}
use Rattle.bay_queues.proofs.ControlLaws.{configs-left}
use Rattle.bay_queues.proofs.QueueLaws.{left-none, none-waits}
use Rattle.bay_core.proofs.SettingLaws.{have-members}
use Rattle.bay_core.proofs.TakenLaws.{closed-for, took-for, take-fine}
use Rattle.bay_core.proofs.bay.Bay.take.Goals as goal

pub returns-in_default-clause-does : goal.returns-in_default-clause-does
returns-in_default-clause-does c = λ c' h was.
    let config = ap (λ (t : State). t.config) c.self.view_is ∙ was.1.is_config in
    let here = c.arrive.ensures.stands c' (length h) (points (configured_model c') h) was.1 in
    closed-for c.args.self.now c.arrive.new.self c.count.new.self c' h c.args.moment c.args.actor c.args.a (subst IsServable config c.self.invariant.furnished.servable) c.requires.number was here c.count.ensures
    (subst (λ (t : State). option_map (λ (e : Ends). e.writer) (row_of t.rows c.args.a.0).ends ≡ None) c.self.view_is (sym c.writer.ensures ∙ c.in_default.is))

pub invariant_of-self : goal.invariant_of-self
invariant_of-self c =
    let w = c.self.invariant in
    let q = c.self.inside.associations in
    record {
      furnished = w.furnished;
      grouped = w.grouped;
      quiet = w.quiet;
      roomy = w.roomy;
      controls = ap (λ (p : Queued). configs p.table) c.in-Ok-Some.ensures.left ∙ (configs-left (oldest c.args.a.0 q) q.table ∙ w.controls);
    }

pub take_report-requires-clause-empty : goal.take_report-requires-clause-empty
take_report-requires-clause-empty c =
    let q = c.self.inside.associations in
    let empty = none-waits q c.args.a.0 c.requires.number c.take.ensures.queued (rw c.in-Ok-None.field-0-is at c.in-Ok-None.ensures.value) in
    ap (λ (p : Queued). (row_of p.rows c.args.a.0).waiting) (left-none q c.take.new.self c.args.a.0 empty c.in-Ok-None.ensures.left) ∙ empty

pub returns-in-Ok-None-clause-does : goal.returns-in-Ok-None-clause-does
returns-in-Ok-None-clause-does c =
    let s = c.self.inside in
    let q = s.associations in
    let empty = none-waits q c.args.a.0 c.requires.number c.take.ensures.queued (rw c.in-Ok-None.field-0-is at c.in-Ok-None.ensures.value) in
    let same = ap (λ (p : Queued). record { config = s.model; steps = s.steps; latest = s.latest; stored = s.values; book = s.sets; parts = s.parts.items; rows = p.rows; groups = s.groups; controls = p.table })
    (left-none q c.take.new.self c.args.a.0 empty c.in-Ok-None.ensures.left) ∙ c.self.view_is in
    subst (λ (t : State). Does t c.take_report.new.self (record { moment = c.args.moment; actor = c.args.actor.0; step = steps.Take c.args.a }) c.take_report.result) same c.take_report.ensures.does

pub returns-in-Ok-Some-clause-does : goal.returns-in-Ok-Some-clause-does
returns-in-Ok-Some-clause-does c = λ c' h was.
    let s = c.self.inside in
    let fit = c.self.invariant.furnished in
    let z : State = record { config = s.model; steps = s.steps; latest = s.latest; stored = s.values; book = s.sets; parts = s.parts.items; rows = s.associations.rows; groups = s.groups; controls = s.associations.table } in
    let st = subst (λ (t : State). StandsFor t c' h) (sym c.self.view_is) was in
    let all : HasAll s.model s.values s.sets s.parts.items = record {
      servable = fit.servable;
      sets = fit.booked.served;
      values = fit.values;
      members = have-members s.model (node_rows s.model) s.values s.sets s.parts.items s.watch s.octets (vec_capacity s.changes) refl fit;
    } in
    let here = arrives z c' (length h) c.args.moment (points (configured_model c') h) all st.1 in
    let left : c.take.new.self ≡ after_take c.args.a.0 s.associations = c.in-Ok-Some.ensures.left in
    let behind = c.give.ensures.state ∙ ap (λ (q : Queued). record (at_arrival c.args.moment (record z { rows = q.rows; controls = q.table })) { steps = suc s.steps }) left in
    let took = took-for z c.give.new.self c' h c.args.moment c.args.actor c.args.a c.in-Ok-Some.output c.in-Some.writer c.requires.number st c.take.ensures.queued (sym c.writer.ensures ∙ c.in-Some.is) c.if-actor-writer.false here behind
    (rw c.in-Ok-Some.field-0-is at c.in-Ok-Some.ensures.value) in
    (c.give.ensures.answer ∙ took.0, took.1)

pub returns-in-Err-clause-does : goal.returns-in-Err-clause-does
returns-in-Err-clause-does c =
    let s = c.self.inside in (
      ap (λ (q : Queued). record { config = s.model; steps = s.steps; latest = s.latest; stored = s.values; book = s.sets; parts = s.parts.items; rows = q.rows; groups = s.groups; controls = q.table }) c.in-Err.ensures.kept ∙ c.self.view_is,
      λ c' h was. take-fine c.args.self.now c' h c.args.moment c.args.actor c.args.a c.in-Some.writer c.requires.number was
          (ap (λ (t : State). option_map (λ (e : Ends). e.writer) (row_of t.rows c.args.a.0).ends) (sym c.self.view_is) ∙ (sym c.writer.ensures ∙ c.in-Some.is)) c.if-actor-writer.false,
    )
