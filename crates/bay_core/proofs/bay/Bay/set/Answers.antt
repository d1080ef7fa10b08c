-- why `bay::Bay::set` answers as its contract says
use Rattle.std.proofs.Common.{ℕ, refl, suc, ap, ap₂, sym, ◌∷◌, length, subst, ◌∙◌, List, vec_capacity, arith}
use Rattle.bay_model.specs.declared.flags.Change.{Change}
use Rattle.bay_model.specs.declared.step.Setting.{Setting}
use Rattle.bay_model.specs.declared.tables.NodeRow.{NodeRow}
use Rattle.bay_model.specs.declared.step.Step.TheVariants as steps
use Rattle.object_model.specs.Fits.{fits}
use Rattle.object_model.specs.Nodes.{node_rows}
use Rattle.value_store.specs.Stored.{Stored, attribute}
use Rattle.report_block.specs.declared.block.ReportBlock.{ReportBlock}
use Rattle.bay_values.specs.Changed.{AreFit, AreMade, AreDistinct, AreTyped, last_set}
use Rattle.bay_values.specs.Held.{AreGrouped, IsSoundCell}
use Rattle.setting_groups.specs.Grouped.{Grouped, after_values}
use Rattle.setting_groups.proofs.FrameLaws.{fit-values}
use Rattle.touch_index.proofs.GatherLaws.{once_where_distinct}
use Rattle.block_events.specs.Events.{AreReady, after_events}
use Rattle.bay_core.specs.State.{State, IsFurnished}
use Rattle.block_watch.specs.Watched.{IsWatching}
use Rattle.bay_model.specs.Answers.{points}
use Rattle.bay_model.specs.Named.{configured_model}
use Rattle.bay_model.specs.Singles.{arrival}
use Rattle.bay_core.specs.Standing.{StandsAt}
use Rattle.bay_values.proofs.ChangeLaws.{fits-settings, typed-settings}
use Rattle.bay_values.proofs.GroupLaws.{are-held-once, are-put}
use Rattle.bay_core.proofs.SettingLaws.{set-for, held-set, furnished-all, are-ready, have-members}
use Rattle.bay_core.proofs.bay.Bay.set.Goals as goal

pub set-requires-clause-fits : goal.set-requires-clause-fits
set-requires-clause-fits c =
    let fit = ap (λ (s : State). fits s.config (steps.Value c.args.sets.now)) (c.self.view_is ∙ c.arrive.ensures.state) ∙ c.requires.fits in
    subst (AreFit c.self.inside.values) (sym c.as_slice.ensures) (fits-settings c.self.inside.model c.self.inside.values c.args.sets.now fit c.self.invariant.furnished.values).0

pub set_all-requires : goal.set_all-requires
set_all-requires c =
    let s = c.self.inside in
    let fit = c.self.invariant.furnished in
    are-put s.model fit.servable s.values fit.values s.groups c.self.invariant.grouped c.as_slice-2.result.now
    (subst (AreTyped s.model) (sym c.as_slice-2.ensures) (typed-settings s.model c.args.sets.now (ap (λ (t : State). fits t.config (steps.Value c.args.sets.now)) (c.self.view_is ∙ c.arrive.ensures.state) ∙ c.requires.fits)))

pub event_all-requires-clause-ready : goal.event_all-requires-clause-ready
event_all-requires-clause-ready c =
    let held = held-set c.args.self.now c.self.inside.model c.self.inside.values c.set.new.self c.args.sets.now c.as_slice.result.now (ap (λ (s : State). s.config) (c.self.view_is ∙ c.arrive.ensures.state)) c.requires.fits c.self.invariant.furnished.values c.as_slice.ensures c.set.ensures.set c.set.ensures.count in
    let rows = c.as_slice-3.ensures ∙ c.nodes.ensures in
    subst (λ (all : List Stored). AreReady c.as_slice-3.result.now c.self.inside.sets all c.self.inside.parts.items) (sym c.store.ensures)
    (are-ready c.self.inside.model c.as_slice-3.result.now c.self.inside.values c.set.new.self c.self.inside.sets c.self.inside.parts.items c.self.inside.watch c.self.inside.octets (vec_capacity c.self.inside.changes) rows c.self.invariant.furnished held)

pub invariant_of-self : goal.invariant_of-self
invariant_of-self c =
    let held = held-set c.args.self.now c.self.inside.model c.self.inside.values c.set.new.self c.args.sets.now c.as_slice.result.now (ap (λ (s : State). s.config) (c.self.view_is ∙ c.arrive.ensures.state)) c.requires.fits c.self.invariant.furnished.values c.as_slice.ensures c.set.ensures.set c.set.ensures.count in
    record {
      furnished = subst (λ ps. IsFurnished c.self.inside.model c.set.new.self c.self.inside.sets ps c.event_all.new.watch c.event_all.new.octets (vec_capacity c.set.new.changes)) (sym c.event_all.ensures.parts)
          (furnished-all c.self.inside.model c.self.inside.sets c.self.inside.values c.set.new.self c.store.result.now c.self.inside.parts.items c.self.inside.watch c.event_all.new.watch c.self.inside.octets c.event_all.new.octets (vec_capacity c.self.inside.changes) (vec_capacity c.set.new.changes) c.as_slice-4.result.now c.as_slice-3.result.now c.self.inside.latest c.self.inside.steps
          c.self.invariant.furnished held c.set.ensures.count c.event_all.ensures.watch c.event_all.ensures.blank c.event_all.ensures.entry (omega (arith, c.clear.ensures.capacity, c.set.ensures.room)));
      grouped = subst (AreGrouped c.self.inside.model) (sym c.set_all.ensures)
          (fit-values c.self.inside.model IsSoundCell c.as_slice-2.result.now c.self.inside.groups c.self.invariant.grouped
          (are-held-once c.self.inside.model c.self.invariant.furnished.servable c.self.inside.values c.self.invariant.furnished.values c.self.inside.groups c.self.invariant.grouped c.as_slice-2.result.now
          (subst (AreTyped c.self.inside.model) (sym c.as_slice-2.ensures) (typed-settings c.self.inside.model c.args.sets.now (ap (λ (s : State). fits s.config (steps.Value c.args.sets.now)) (c.self.view_is ∙ c.arrive.ensures.state) ∙ c.requires.fits)))));
      quiet = c.event_all.ensures.quiet;
      roomy = c.event_all.ensures.events;
      controls = c.self.invariant.controls;
    }

pub event_all-requires-clause-once : goal.event_all-requires-clause-once
event_all-requires-clause-once c = once_where_distinct c.as_slice-4.result.now (subst AreDistinct (sym c.as_slice-4.ensures.value) c.set.ensures.once)

pub returns-clause-does : goal.returns-clause-does
returns-clause-does c = λ c' h was.
    let here = subst (λ (s : State). StandsAt s c' (length h) (arrival (length h) c.args.moment ∷ points (configured_model c') h)) (sym c.self.view_is) (c.arrive.ensures.stands c' (length h) (points (configured_model c') h) was.1) in
    let held = held-set c.args.self.now c.self.inside.model c.self.inside.values c.set.new.self c.args.sets.now c.as_slice.result.now (ap (λ (s : State). s.config) (c.self.view_is ∙ c.arrive.ensures.state)) c.requires.fits c.self.invariant.furnished.values c.as_slice.ensures c.set.ensures.set c.set.ensures.count in
    let fit = ap (λ (s : State). fits s.config (steps.Value c.args.sets.now)) (c.self.view_is ∙ c.arrive.ensures.state) ∙ c.requires.fits in
    let parts = c.event_all.ensures.parts ∙ (ap (λ (all : List Stored). after_events c.as_slice-3.result.now c.self.inside.sets all c.as_slice-4.result.now c.self.inside.latest c.self.inside.steps c.self.inside.parts.items) c.store.ensures
    ∙ ap (λ (changes : List Change). after_events c.as_slice-3.result.now c.self.inside.sets c.set.new.self changes c.self.inside.latest c.self.inside.steps c.self.inside.parts.items) c.as_slice-4.ensures.value) in (
      refl,
      set-for c.as_slice-3.result.now c.args.self.now _ c.count.new.self c' h c.args.moment c.args.actor.0 c.args.sets.now c.set.new.self c.set.new.changes.items
          c.self.invariant.furnished.servable c.self.invariant.furnished.booked.served held (fits-settings c.self.inside.model c.self.inside.values c.args.sets.now fit c.self.invariant.furnished.values).0
          (have-members c.self.inside.model c.as_slice-3.result.now c.self.inside.values c.self.inside.sets c.self.inside.parts.items c.self.inside.watch c.self.inside.octets (vec_capacity c.self.inside.changes) (c.as_slice-3.ensures ∙ c.nodes.ensures) c.self.invariant.furnished)
          (λ x. c.set.ensures.set x ∙ ap (λ (l : List Setting). last_set l x (attribute c.self.inside.values x)) c.as_slice.ensures) c.set.ensures.count
          (subst (λ (l : List Setting). AreMade c.self.inside.model c.self.inside.values l c.set.new.changes.items) c.as_slice.ensures c.set.ensures.changes)
          here
          (c.count.ensures ∙ ap₂ (λ (ps : List ReportBlock) (g : Grouped). record { config = c.self.inside.model; steps = suc c.self.inside.steps; latest = c.self.inside.latest; stored = c.set.new.self; book = c.self.inside.sets; parts = ps; rows = c.self.inside.associations.rows; groups = g; controls = c.self.inside.associations.table }) parts (c.set_all.ensures ∙ ap (λ (l : List Setting). after_values l c.self.inside.groups) c.as_slice-2.ensures))
          was,
    )

pub event_all-requires-clause-watching : goal.event_all-requires-clause-watching
event_all-requires-clause-watching c =
    let s = c.self.inside in
    subst (λ (rows : List NodeRow). IsWatching rows s.sets (length c.store.result.now) s.parts.items s.watch) (sym (c.as_slice-3.ensures ∙ c.nodes.ensures))
    (subst (λ (n : ℕ). IsWatching (node_rows s.model) s.sets n s.parts.items s.watch) (sym (ap (λ (l : List Stored). length l) c.store.ensures ∙ c.set.ensures.count)) c.self.invariant.furnished.watch)

pub event_all-requires-clause-quiet : goal.event_all-requires-clause-quiet
event_all-requires-clause-quiet c = c.self.invariant.quiet

pub event_all-requires-clause-events : goal.event_all-requires-clause-events
event_all-requires-clause-events c = c.self.invariant.roomy

pub event_all-requires-clause-entry : goal.event_all-requires-clause-entry
event_all-requires-clause-entry c = c.self.invariant.furnished.entry

pub returns-clause-counted : goal.returns-clause-counted
returns-clause-counted c =
    let behind = c.self.view_is ∙ c.arrive.ensures.state in
    (ap (λ (t : State). t.config) c.count.ensures ∙ ap (λ (t : State). t.config) behind, ap (λ (t : State). t.steps) c.count.ensures ∙ ap (λ (t : State). suc t.steps) behind)
