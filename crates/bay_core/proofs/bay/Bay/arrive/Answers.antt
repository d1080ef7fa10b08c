-- why `bay::Bay::arrive` answers as its contract says
use Rattle.std.proofs.Common.{◌≡◌, map, ◌∙◌, ◌∷◌, ℕ, List, refl, ap, ap₂, sym, subst, vec_capacity}
use Rattle.bay_model.specs.declared.tables.NodeRow.{NodeRow}
use Rattle.bay_model.specs.Singles.{arrival}
use Rattle.object_model.specs.Nodes.{node_rows}
use Rattle.value_store.specs.Stored.{Stored}
use Rattle.report_block.specs.declared.block.ReportBlock.{ReportBlock}
use Rattle.bay_model.specs.Configured.{control_defined}
use Rattle.control_core.specs.Tables.{at_moment}
use Rattle.bay_queues.specs.Queued.{Queued, configs}
use Rattle.block_events.specs.Events.{AreReady}
use Rattle.bay_core.specs.Standing.{StandsAt}
use Rattle.bay_core.specs.State.{State, IsFurnished}
use Rattle.block_events.specs.Timed.{arrived_all}
use Rattle.bay_core.specs.Timed.{at_arrival}
use Rattle.bay_core.proofs.ArriveLaws.{HasAll, arrives, furnished-arrived}
use Rattle.bay_core.proofs.SettingLaws.{are-ready, have-members}
use Rattle.bay_core.proofs.bay.Bay.arrive.Goals as goal

pub pass_due-requires-clause-ready : goal.pass_due-requires-clause-ready
pass_due-requires-clause-ready c =
    subst (λ (all : List Stored). AreReady c.as_slice.result.now c.self.inside.sets all c.self.inside.parts.items) (sym c.store.ensures)
    (are-ready c.self.inside.model c.as_slice.result.now c.self.inside.values c.self.inside.values c.self.inside.sets c.self.inside.parts.items c.self.inside.watch c.self.inside.octets (vec_capacity c.self.inside.changes) (c.as_slice.ensures ∙ c.nodes.ensures)
    c.self.invariant.furnished c.self.invariant.furnished.values)

pub invariant_of-self : goal.invariant_of-self
invariant_of-self c = record {
  furnished = subst (λ ps. IsFurnished c.self.inside.model c.self.inside.values c.self.inside.sets ps c.self.inside.watch c.pass_due.new.octets (vec_capacity c.self.inside.changes)) (sym c.pass_due.ensures.parts)
      (furnished-arrived c.self.inside.model c.self.inside.values c.store.result.now c.self.inside.sets c.self.inside.parts.items c.self.inside.watch c.self.inside.octets c.pass_due.new.octets (vec_capacity c.self.inside.changes)
      c.as_slice.result.now c.self.inside.latest c.later-now.result c.self.inside.steps c.self.invariant.furnished c.pass_due.ensures.entry);
  quiet = c.pass_due.ensures.quiet;
  grouped = c.self.invariant.grouped;
  roomy = c.self.invariant.roomy;
  controls = subst (λ (q : Queued). configs q.table ≡ map control_defined c.self.inside.model.controls) (sym c.advance.ensures) c.self.invariant.controls;
}

pub returns-clause-state : goal.returns-clause-state
returns-clause-state c =
    let s = c.self.inside in
    let parts = c.pass_due.ensures.parts
    ∙ (ap (λ (rows : List NodeRow). arrived_all rows s.sets c.store.result.now s.latest c.later-now.result s.steps s.parts.items) (c.as_slice.ensures ∙ c.nodes.ensures)
    ∙ ap₂ (λ (all : List Stored) (now : ℕ). arrived_all (node_rows s.model) s.sets all s.latest now s.steps s.parts.items) c.store.ensures c.later-now.ensures) in
    ap (λ (q : Queued). record { config = s.model; steps = s.steps; latest = c.later-now.result; stored = s.values; book = s.sets; parts = c.pass_due.new.parts.items; rows = q.rows; groups = s.groups; controls = q.table }) c.advance.ensures
    ∙ (ap₂ (λ (now : ℕ) (ps : List ReportBlock). record { config = s.model; steps = s.steps; latest = now; stored = s.values; book = s.sets; parts = ps; rows = s.associations.rows; groups = s.groups; controls = at_moment now s.associations.table }) c.later-now.ensures parts
    ∙ ap (at_arrival c.args.moment) c.self.view_is)

pub returns-clause-stands : goal.returns-clause-stands
returns-clause-stands c = λ c' n past st.
    let s = c.self.inside in
    let fit = c.self.invariant.furnished in
    let all : HasAll s.model s.values s.sets s.parts.items = record {
      servable = fit.servable;
      sets = fit.booked.served;
      values = fit.values;
      members = have-members s.model (node_rows s.model) s.values s.sets s.parts.items s.watch s.octets (vec_capacity s.changes) refl fit;
    } in
    subst (λ (t : State). StandsAt t c' n (arrival n c.args.moment ∷ past)) (sym (returns-clause-state c))
    (arrives c.args.self.now c' n c.args.moment past (subst (λ (t : State). HasAll t.config t.stored t.book t.parts) c.self.view_is all) st)
