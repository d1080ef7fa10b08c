-- why `bay::Bay::write_part` answers as its contract says
use Rattle.std.proofs.Common.{rules, ◌≡◌, ◌<◌, ◌∙◌, ℕ, List, Ok, Err, length, ap, ap₂, sym, subst, arith, vec_capacity}
use Rattle.std.specs.List.{All}
use Rattle.bay_model.specs.declared.tables.NodeRow.{NodeRow}
use Rattle.bay_model.specs.Lookups.{groups_of}
use Rattle.bay_model.specs.Named.{configured_model}
use Rattle.bay_model.specs.Writes.{write_part}
use Rattle.bay_model.specs.declared.flags.Change.{Change}
use Rattle.object_model.specs.Nodes.{node_rows}
use Rattle.value_store.specs.Stored.{Stored, attribute}
use Rattle.report_block.specs.declared.block.ReportBlock.{ReportBlock}
use Rattle.setting_groups.specs.Grouped.{Grouped}
use Rattle.setting_groups.specs.Loaded.{active_settings}
use Rattle.touch_index.proofs.GatherLaws.{once_where_distinct}
use Rattle.bay_values.specs.Changed.{AreDistinct, AreMade, last_set}
use Rattle.bay_values.specs.Held.{AreGrouped}
use Rattle.bay_values.proofs.GroupLaws.{loadable}
use Rattle.bay_core.specs.Asked.{IsWrite}
use Rattle.block_events.specs.Events.{AreReady, after_events}
use Rattle.bay_core.specs.State.{State, IsFurnished}
use Rattle.block_watch.specs.Watched.{IsWatching}
use Rattle.bay_core.proofs.GroupLaws.{part-refused, part-quiet, part-set, fit-after, held-loaded}
use Rattle.bay_core.proofs.SettingLaws.{are-ready, furnished-all, have-members}
use Rattle.bay_core.proofs.bay.Bay.write_part.Goals as goal

pub returns-in_err-write-clause-written : goal.returns-in_err-write-clause-written
returns-in_err-write-clause-written c =
    let s = c.self.inside in
    let z : State = record { config = s.model; steps = s.steps; latest = s.latest; stored = s.values; book = s.sets; parts = s.parts.items; rows = s.associations.rows; groups = s.groups; controls = s.associations.table } in
    let whole = c.self.invariant in
    let fit = whole.furnished in
    let some : 0 < (groups_of (configured_model s.model) c.args.domain).count = subst (λ (t : State). 0 < (groups_of (configured_model t.config) c.args.domain).count) (sym c.self.view_is) c.requires.grouped in
    let code : c.from_residual.result ≡ Err c.in_err-write.field-0.0 = search rules in
    subst (λ (w : State). IsWrite w (record z { groups = c.write.new.self }) (λ m past. write_part m c.args.a.0 c.args.domain c.args.part c.args.value.now past) c.from_residual.result) c.self.view_is
    (subst (λ (g : Grouped). IsWrite z (record z { groups = g }) (λ m past. write_part m c.args.a.0 c.args.domain c.args.part c.args.value.now past) c.from_residual.result) (sym c.in_err-write.ensures.kept)
    (subst (IsWrite z z (λ m past. write_part m c.args.a.0 c.args.domain c.args.part c.args.value.now past)) (sym code)
    (part-refused z fit.servable fit.values whole.grouped c.args.a.0 c.args.domain c.args.part c.args.value.now some c.in_err-write.field-0.0 c.in_err-write.ensures.answer)))

pub invariant_of-self-then-not-branch : goal.invariant_of-self-then-not-branch
invariant_of-self-then-not-branch c =
    let s = c.self.inside in
    let z : State = record { config = s.model; steps = s.steps; latest = s.latest; stored = s.values; book = s.sets; parts = s.parts.items; rows = s.associations.rows; groups = s.groups; controls = s.associations.table } in
    let whole = c.self.invariant in
    let fit = whole.furnished in
    let some : 0 < (groups_of (configured_model s.model) c.args.domain).count = subst (λ (t : State). 0 < (groups_of (configured_model t.config) c.args.domain).count) (sym c.self.view_is) c.requires.grouped in
    record {
      furnished = fit;
      grouped = subst (AreGrouped s.model) (sym c.in_ok-write.ensures.set) (fit-after z fit.servable fit.values whole.grouped c.args.a.0 c.args.domain c.args.part c.args.value.now some);
      quiet = whole.quiet;
      roomy = whole.roomy;
      controls = whole.controls;
    }

pub returns-then-not-branch-clause-written : goal.returns-then-not-branch-clause-written
returns-then-not-branch-clause-written c =
    let s = c.self.inside in
    let z : State = record { config = s.model; steps = s.steps; latest = s.latest; stored = s.values; book = s.sets; parts = s.parts.items; rows = s.associations.rows; groups = s.groups; controls = s.associations.table } in
    let whole = c.self.invariant in
    let fit = whole.furnished in
    let some : 0 < (groups_of (configured_model s.model) c.args.domain).count = subst (λ (t : State). 0 < (groups_of (configured_model t.config) c.args.domain).count) (sym c.self.view_is) c.requires.grouped in
    subst (λ (w : State). IsWrite w (record z { groups = c.write.new.self }) (λ m past. write_part m c.args.a.0 c.args.domain c.args.part c.args.value.now past) (Ok tt)) c.self.view_is
    (part-quiet z fit.servable fit.values whole.grouped c.args.a.0 c.args.domain c.args.part c.args.value.now some (record z { groups = c.write.new.self }) (ap Ok (sym c.if-not-branch.true) ∙ c.in_ok-write.ensures.answer) (ap (λ (g : Grouped). record z { groups = g }) c.in_ok-write.ensures.set))

pub load-requires-clause-fit : goal.load-requires-clause-fit
load-requires-clause-fit c =
    let s = c.self.inside in
    let z : State = record { config = s.model; steps = s.steps; latest = s.latest; stored = s.values; book = s.sets; parts = s.parts.items; rows = s.associations.rows; groups = s.groups; controls = s.associations.table } in
    let whole = c.self.invariant in
    let fit = whole.furnished in
    let some : 0 < (groups_of (configured_model s.model) c.args.domain).count = subst (λ (t : State). 0 < (groups_of (configured_model t.config) c.args.domain).count) (sym c.self.view_is) c.requires.grouped in
    let grouped = subst (AreGrouped s.model) (sym c.in_ok-write.ensures.set) (fit-after z fit.servable fit.values whole.grouped c.args.a.0 c.args.domain c.args.part c.args.value.now some) in
    loadable s.model fit.servable s.values fit.values c.write.new.self grouped

pub event_all-requires-clause-ready : goal.event_all-requires-clause-ready
event_all-requires-clause-ready c =
    let s = c.self.inside in
    let z : State = record { config = s.model; steps = s.steps; latest = s.latest; stored = s.values; book = s.sets; parts = s.parts.items; rows = s.associations.rows; groups = s.groups; controls = s.associations.table } in
    let whole = c.self.invariant in
    let fit = whole.furnished in
    let some : 0 < (groups_of (configured_model s.model) c.args.domain).count = subst (λ (t : State). 0 < (groups_of (configured_model t.config) c.args.domain).count) (sym c.self.view_is) c.requires.grouped in
    let grouped = subst (AreGrouped s.model) (sym c.in_ok-write.ensures.set) (fit-after z fit.servable fit.values whole.grouped c.args.a.0 c.args.domain c.args.part c.args.value.now some) in
    let set = λ (x : ℕ). c.load.ensures.set x ∙ ap (λ (g : Grouped). last_set (active_settings c.args.domain g) x (attribute s.values x)) c.in_ok-write.ensures.set in
    let held = held-loaded z fit.servable fit.values whole.grouped c.args.a.0 c.args.domain c.args.part c.args.value.now some c.load.new.self set c.load.ensures.count in
    subst (λ (all : List Stored). AreReady c.as_slice.result.now s.sets all s.parts.items) (sym c.store.ensures)
    (are-ready s.model c.as_slice.result.now s.values c.load.new.self s.sets s.parts.items s.watch s.octets (vec_capacity s.changes) (c.as_slice.ensures ∙ c.nodes.ensures) fit held)

pub event_all-requires-clause-once : goal.event_all-requires-clause-once
event_all-requires-clause-once c = once_where_distinct c.as_slice-2.result.now (subst AreDistinct (sym c.as_slice-2.ensures.value) c.load.ensures.once)

pub invariant_of-self-2 : goal.invariant_of-self-2
invariant_of-self-2 c =
    let s = c.self.inside in
    let z : State = record { config = s.model; steps = s.steps; latest = s.latest; stored = s.values; book = s.sets; parts = s.parts.items; rows = s.associations.rows; groups = s.groups; controls = s.associations.table } in
    let whole = c.self.invariant in
    let fit = whole.furnished in
    let some : 0 < (groups_of (configured_model s.model) c.args.domain).count = subst (λ (t : State). 0 < (groups_of (configured_model t.config) c.args.domain).count) (sym c.self.view_is) c.requires.grouped in
    let grouped = subst (AreGrouped s.model) (sym c.in_ok-write.ensures.set) (fit-after z fit.servable fit.values whole.grouped c.args.a.0 c.args.domain c.args.part c.args.value.now some) in
    let set = λ (x : ℕ). c.load.ensures.set x ∙ ap (λ (g : Grouped). last_set (active_settings c.args.domain g) x (attribute s.values x)) c.in_ok-write.ensures.set in
    let held = held-loaded z fit.servable fit.values whole.grouped c.args.a.0 c.args.domain c.args.part c.args.value.now some c.load.new.self set c.load.ensures.count in
    record {
      furnished = subst (λ ps. IsFurnished s.model c.load.new.self s.sets ps c.event_all.new.watch c.event_all.new.octets (vec_capacity c.load.new.changes)) (sym c.event_all.ensures.parts)
          (furnished-all s.model s.sets s.values c.load.new.self c.store.result.now s.parts.items s.watch c.event_all.new.watch s.octets c.event_all.new.octets (vec_capacity s.changes) (vec_capacity c.load.new.changes) c.as_slice-2.result.now c.as_slice.result.now s.latest s.steps
          fit held c.load.ensures.count c.event_all.ensures.watch c.event_all.ensures.blank c.event_all.ensures.entry (omega (arith, c.clear.ensures.capacity, c.load.ensures.room)));
      grouped = grouped;
      quiet = c.event_all.ensures.quiet;
      roomy = c.event_all.ensures.events;
      controls = c.self.invariant.controls;
    }

pub returns-clause-written : goal.returns-clause-written
returns-clause-written c =
    let s = c.self.inside in
    let z : State = record { config = s.model; steps = s.steps; latest = s.latest; stored = s.values; book = s.sets; parts = s.parts.items; rows = s.associations.rows; groups = s.groups; controls = s.associations.table } in
    let whole = c.self.invariant in
    let fit = whole.furnished in
    let some : 0 < (groups_of (configured_model s.model) c.args.domain).count = subst (λ (t : State). 0 < (groups_of (configured_model t.config) c.args.domain).count) (sym c.self.view_is) c.requires.grouped in
    let grouped = subst (AreGrouped s.model) (sym c.in_ok-write.ensures.set) (fit-after z fit.servable fit.values whole.grouped c.args.a.0 c.args.domain c.args.part c.args.value.now some) in
    let set = λ (x : ℕ). c.load.ensures.set x ∙ ap (λ (g : Grouped). last_set (active_settings c.args.domain g) x (attribute s.values x)) c.in_ok-write.ensures.set in
    let held = held-loaded z fit.servable fit.values whole.grouped c.args.a.0 c.args.domain c.args.part c.args.value.now some c.load.new.self set c.load.ensures.count in
    let rows = c.as_slice.result.now in
    let new : List ReportBlock → Grouped → State = λ ps g. record z { stored = c.load.new.self; parts = ps; groups = g } in
    let parts = c.event_all.ensures.parts ∙ (ap (λ (all : List Stored). after_events rows s.sets all c.as_slice-2.result.now s.latest s.steps s.parts.items) c.store.ensures
    ∙ ap (λ (changes : List Change). after_events rows s.sets c.load.new.self changes s.latest s.steps s.parts.items) c.as_slice-2.ensures.value) in
    let made = subst (λ (g : Grouped). AreMade s.model s.values (active_settings c.args.domain g) c.load.new.changes.items) c.in_ok-write.ensures.set c.load.ensures.changes in
    subst (λ (w : State). IsWrite w (new c.event_all.new.parts.items c.write.new.self) (λ m past. write_part m c.args.a.0 c.args.domain c.args.part c.args.value.now past) (Ok tt)) c.self.view_is
    (part-set z fit.servable fit.values whole.grouped c.args.a.0 c.args.domain c.args.part c.args.value.now some (new c.event_all.new.parts.items c.write.new.self) rows c.load.new.self c.load.new.changes.items fit.booked.served
    (have-members s.model rows s.values s.sets s.parts.items s.watch s.octets (vec_capacity s.changes) (c.as_slice.ensures ∙ c.nodes.ensures) fit)
    (ap Ok (sym c.if-not-branch.false) ∙ c.in_ok-write.ensures.answer) set c.load.ensures.count made (ap₂ new parts c.in_ok-write.ensures.set))

pub event_all-requires-clause-watching : goal.event_all-requires-clause-watching
event_all-requires-clause-watching c =
    let s = c.self.inside in
    subst (λ (rows : List NodeRow). IsWatching rows s.sets (length c.store.result.now) s.parts.items s.watch) (sym (c.as_slice.ensures ∙ c.nodes.ensures))
    (subst (λ (n : ℕ). IsWatching (node_rows s.model) s.sets n s.parts.items s.watch) (sym (ap (λ (l : List Stored). length l) c.store.ensures ∙ c.load.ensures.count)) c.self.invariant.furnished.watch)

pub event_all-requires-clause-quiet : goal.event_all-requires-clause-quiet
event_all-requires-clause-quiet c = c.self.invariant.quiet

pub event_all-requires-clause-events : goal.event_all-requires-clause-events
event_all-requires-clause-events c = c.self.invariant.roomy

pub event_all-requires-clause-entry : goal.event_all-requires-clause-entry
event_all-requires-clause-entry c = c.self.invariant.furnished.entry

pub event_all-requires-clause-attrs : goal.event_all-requires-clause-attrs
event_all-requires-clause-attrs c =
    let s = c.self.inside in
    subst (λ (n : ℕ). All (λ (ch : Change). ch.attr.0 < n) c.as_slice-2.result.now) (sym (ap (λ (l : List Stored). length l) c.store.ensures ∙ c.load.ensures.count))
    (subst (All (λ (ch : Change). ch.attr.0 < length s.values)) (sym c.as_slice-2.ensures.value) c.load.ensures.within)

pub returns-in_err-write-clause-kept : goal.returns-in_err-write-clause-kept
returns-in_err-write-clause-kept c = record {
  config = ap (λ (t : State). t.config) c.self.view_is;
  steps = ap (λ (t : State). t.steps) c.self.view_is;
  rows = ap (λ (t : State). t.rows) c.self.view_is;
}

pub returns-in_err-write-clause-controls : goal.returns-in_err-write-clause-controls
returns-in_err-write-clause-controls c = ap (λ (t : State). t.controls) c.self.view_is

pub returns-then-not-branch-clause-kept : goal.returns-then-not-branch-clause-kept
returns-then-not-branch-clause-kept c = record {
  config = ap (λ (t : State). t.config) c.self.view_is;
  steps = ap (λ (t : State). t.steps) c.self.view_is;
  rows = ap (λ (t : State). t.rows) c.self.view_is;
}

pub returns-then-not-branch-clause-controls : goal.returns-then-not-branch-clause-controls
returns-then-not-branch-clause-controls c = ap (λ (t : State). t.controls) c.self.view_is

pub returns-clause-kept : goal.returns-clause-kept
returns-clause-kept c = record {
  config = ap (λ (t : State). t.config) c.self.view_is;
  steps = ap (λ (t : State). t.steps) c.self.view_is;
  rows = ap (λ (t : State). t.rows) c.self.view_is;
}

pub returns-clause-controls : goal.returns-clause-controls
returns-clause-controls c = ap (λ (t : State). t.controls) c.self.view_is
