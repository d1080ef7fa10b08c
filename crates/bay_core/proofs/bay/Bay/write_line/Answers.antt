-- why `bay::Bay::write_line` answers as its contract says
use Rattle.std.proofs.Common.{◌<◌, ◌∙◌, ℕ, List, Ok, Err, length, ap, sym, subst, arith, vec_capacity}
use Rattle.std.proofs.lemmas.List.{length-set}
use Rattle.bay_model.specs.declared.flags.Change.{Change}
use Rattle.bay_model.specs.declared.tables.NodeRow.{NodeRow}
use Rattle.object_model.specs.Nodes.{node_rows}
use Rattle.value_store.specs.Stored.{Stored, attribute, with_value}
use Rattle.report_block.specs.declared.block.ReportBlock.{ReportBlock}
use Rattle.bay_replies.specs.Given.{copies_from}
use Rattle.bay_core.specs.Asked.{IsWrite}
use Rattle.block_events.specs.Events.{AreReady, after_events}
use Rattle.bay_core.specs.State.{State, IsFurnished}
use Rattle.block_watch.specs.Watched.{IsWatching}
use Rattle.bay_core.proofs.SettingLaws.{are-ready, furnished-all, have-members}
use Rattle.bay_core.proofs.SingleLaws.{attribute_comes, attribute-refused, attribute-set, one-held, own-at}
use Rattle.bay_core.proofs.bay.Bay.write_line.Goals as goal

pub write-requires-clause-there : goal.write-requires-clause-there
write-requires-clause-there c =
    let s = c.self.inside in
    let below : c.args.attr.0 < copies_from s.values s.groups = subst (λ (t : State). c.args.attr.0 < copies_from t.stored t.groups) (sym c.self.view_is) c.requires.there in
    omega (arith, below)

pub write-requires-clause-room : goal.write-requires-clause-room
write-requires-clause-room c =
    let s = c.self.inside in
    let fit = c.self.invariant.furnished in
    let below : c.args.attr.0 < copies_from s.values s.groups = subst (λ (t : State). c.args.attr.0 < copies_from t.stored t.groups) (sym c.self.view_is) c.requires.there in
    omega (arith, below, fit.changes, c.clear.ensures.capacity)

pub returns-in-Err-clause-written : goal.returns-in-Err-clause-written
returns-in-Err-clause-written c = λ a.
    let s = c.self.inside in
    let x = c.args.attr.0 in
    let v = c.args.value.now in
    let z : State = record { config = s.model; steps = s.steps; latest = s.latest; stored = s.values; book = s.sets; parts = s.parts.items; rows = s.associations.rows; groups = s.groups; controls = s.associations.table } in
    let fit = c.self.invariant.furnished in
    let below : x < copies_from s.values s.groups = subst (λ (t : State). x < copies_from t.stored t.groups) (sym c.self.view_is) c.requires.there in
    let there : x < length s.values = omega (arith, below) in
    let code = c.refusal.ensures in
    subst (λ (w : State). IsWrite w (record z { stored = c.write.new.self }) (attribute_comes a x v) (Err c.refusal.result)) c.self.view_is
    (subst (λ (l : List Stored). IsWrite z (record z { stored = l }) (attribute_comes a x v) (Err c.refusal.result)) (sym c.in-Err.ensures.kept)
    (subst (λ (k : ℕ). IsWrite z z (attribute_comes a x v) (Err k)) (sym code)
    (attribute-refused z fit.servable fit.values x v there (own-at s.model s.values s.groups fit.values c.self.invariant.grouped.framed x below) c.in-Err.fault a (sym c.in-Err.is ∙ c.write.ensures.answer))))

pub event_all-requires-clause-ready : goal.event_all-requires-clause-ready
event_all-requires-clause-ready c =
    let s = c.self.inside in
    let x = c.args.attr.0 in
    let v = c.args.value.now in
    let z : State = record { config = s.model; steps = s.steps; latest = s.latest; stored = s.values; book = s.sets; parts = s.parts.items; rows = s.associations.rows; groups = s.groups; controls = s.associations.table } in
    let fit = c.self.invariant.furnished in
    let below : x < copies_from s.values s.groups = subst (λ (t : State). x < copies_from t.stored t.groups) (sym c.self.view_is) c.requires.there in
    let there : x < length s.values = omega (arith, below) in
    let held = one-held z fit.servable fit.values x v there c.write.new.self c.in_default.ensures.set c.requires.sound (sym c.in_default.is ∙ c.write.ensures.answer) in
    subst (λ (all : List Stored). AreReady c.as_slice.result.now s.sets all s.parts.items) (sym c.store.ensures)
    (are-ready s.model c.as_slice.result.now s.values c.write.new.self s.sets s.parts.items s.watch s.octets (vec_capacity s.changes) (c.as_slice.ensures ∙ c.nodes.ensures) fit held)

pub invariant_of-self-2 : goal.invariant_of-self-2
invariant_of-self-2 c =
    let s = c.self.inside in
    let x = c.args.attr.0 in
    let v = c.args.value.now in
    let z : State = record { config = s.model; steps = s.steps; latest = s.latest; stored = s.values; book = s.sets; parts = s.parts.items; rows = s.associations.rows; groups = s.groups; controls = s.associations.table } in
    let fit = c.self.invariant.furnished in
    let below : x < copies_from s.values s.groups = subst (λ (t : State). x < copies_from t.stored t.groups) (sym c.self.view_is) c.requires.there in
    let there : x < length s.values = omega (arith, below) in
    let held = one-held z fit.servable fit.values x v there c.write.new.self c.in_default.ensures.set c.requires.sound (sym c.in_default.is ∙ c.write.ensures.answer) in
    let count = ap (λ (l : List Stored). length l) c.in_default.ensures.set ∙ length-set s.values x (with_value v (attribute s.values x)) in
    record {
      furnished = subst (λ ps. IsFurnished s.model c.write.new.self s.sets ps c.event_all.new.watch c.event_all.new.octets (vec_capacity c.write.new.changes)) (sym c.event_all.ensures.parts)
          (furnished-all s.model s.sets s.values c.write.new.self c.store.result.now s.parts.items s.watch c.event_all.new.watch s.octets c.event_all.new.octets (vec_capacity s.changes) (vec_capacity c.write.new.changes) c.as_slice-2.result.now c.as_slice.result.now s.latest s.steps
          fit held count c.event_all.ensures.watch c.event_all.ensures.blank c.event_all.ensures.entry (omega (arith, c.clear.ensures.capacity, c.write.ensures.room)));
      grouped = c.self.invariant.grouped;
      quiet = c.event_all.ensures.quiet;
      roomy = c.event_all.ensures.events;
      controls = c.self.invariant.controls;
    }

pub returns-clause-written : goal.returns-clause-written
returns-clause-written c = λ a.
    let s = c.self.inside in
    let x = c.args.attr.0 in
    let v = c.args.value.now in
    let z : State = record { config = s.model; steps = s.steps; latest = s.latest; stored = s.values; book = s.sets; parts = s.parts.items; rows = s.associations.rows; groups = s.groups; controls = s.associations.table } in
    let fit = c.self.invariant.furnished in
    let below : x < copies_from s.values s.groups = subst (λ (t : State). x < copies_from t.stored t.groups) (sym c.self.view_is) c.requires.there in
    let there : x < length s.values = omega (arith, below) in
    let rows = c.as_slice.result.now in
    let new : List ReportBlock → State = λ ps. record z { stored = c.write.new.self; parts = ps } in
    let parts = c.event_all.ensures.parts ∙ (ap (λ (all : List Stored). after_events rows s.sets all c.as_slice-2.result.now s.latest s.steps s.parts.items) c.store.ensures
    ∙ ap (λ (changes : List Change). after_events rows s.sets c.write.new.self changes s.latest s.steps s.parts.items) c.as_slice-2.ensures.value) in
    subst (λ (w : State). IsWrite w (new c.event_all.new.parts.items) (attribute_comes a x v) (Ok tt)) c.self.view_is
    (attribute-set z fit.servable fit.values x v there (own-at s.model s.values s.groups fit.values c.self.invariant.grouped.framed x below) (new c.event_all.new.parts.items) rows c.write.new.self c.write.new.changes.items a fit.booked.served
    (have-members s.model rows s.values s.sets s.parts.items s.watch s.octets (vec_capacity s.changes) (c.as_slice.ensures ∙ c.nodes.ensures) fit)
    c.requires.sound (sym c.in_default.is ∙ c.write.ensures.answer) c.in_default.ensures.set c.in_default.ensures.noted (ap new parts))

pub event_all-requires-clause-watching : goal.event_all-requires-clause-watching
event_all-requires-clause-watching c =
    let s = c.self.inside in
    subst (λ (rows : List NodeRow). IsWatching rows s.sets (length c.store.result.now) s.parts.items s.watch) (sym (c.as_slice.ensures ∙ c.nodes.ensures))
    (subst (λ (n : ℕ). IsWatching (node_rows s.model) s.sets n s.parts.items s.watch) (sym (ap (λ (l : List Stored). length l) c.store.ensures ∙ (ap (λ (l : List Stored). length l) c.in_default.ensures.set ∙ length-set s.values c.args.attr.0 (with_value c.args.value.now (attribute s.values c.args.attr.0))))) c.self.invariant.furnished.watch)

pub event_all-requires-clause-quiet : goal.event_all-requires-clause-quiet
event_all-requires-clause-quiet c = c.self.invariant.quiet

pub event_all-requires-clause-events : goal.event_all-requires-clause-events
event_all-requires-clause-events c = c.self.invariant.roomy

pub event_all-requires-clause-entry : goal.event_all-requires-clause-entry
event_all-requires-clause-entry c = c.self.invariant.furnished.entry

pub returns-in-Err-clause-kept : goal.returns-in-Err-clause-kept
returns-in-Err-clause-kept c = record {
  config = ap (λ (t : State). t.config) c.self.view_is;
  steps = ap (λ (t : State). t.steps) c.self.view_is;
  rows = ap (λ (t : State). t.rows) c.self.view_is;
}

pub returns-in-Err-clause-controls : goal.returns-in-Err-clause-controls
returns-in-Err-clause-controls c = ap (λ (t : State). t.controls) c.self.view_is

pub returns-clause-kept : goal.returns-clause-kept
returns-clause-kept c = record {
  config = ap (λ (t : State). t.config) c.self.view_is;
  steps = ap (λ (t : State). t.steps) c.self.view_is;
  rows = ap (λ (t : State). t.rows) c.self.view_is;
}

pub returns-clause-controls : goal.returns-clause-controls
returns-clause-controls c = ap (λ (t : State). t.controls) c.self.view_is
