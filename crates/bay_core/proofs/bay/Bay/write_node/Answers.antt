-- why `bay::Bay::write_node` answers as its contract says
use Rattle.std.proofs.Common.{◌≡◌, ◌<◌, ◌∙◌, ℕ, Err, length, ap, sym, subst, arith}
use Rattle.std.specs.Prelude.{if◌then◌else◌}
use Rattle.name_leaves.specs.declared.what.What.{What}
use Rattle.name_leaves.specs.declared.what.What.TheVariants as whats
use Rattle.name_leaves.specs.Seen.{role_seen}
use Rattle.bay_model.specs.Attributes.{attributes}
use Rattle.bay_model.specs.Lookups.{node_of}
use Rattle.bay_model.specs.Model.{single, several, selecting, attribute, component, setting, withheld}
use Rattle.bay_model.specs.Named.{configured_model}
use Rattle.sv_base.specs.Kinds.{is_kind, text}
use Rattle.bay_model.specs.Writes.{write_node}
use Rattle.bay_core.specs.Asked.{IsWrite}
use Rattle.bay_core.specs.Commanded.{IsNoCommand}
use Rattle.bay_core.specs.State.{State}
use Rattle.bay_replies.specs.Plain.{HasGroups, IsPlainRole}
use Rattle.bay_core.proofs.SingleLaws.{by-role, component-write, refused-write, role-told}
use Rattle.bay_core.proofs.bay.Bay.write_node.Goals as goal
use Rattle.list_laws.proofs.Places.{get-within}

pub write_attribute-requires-clause-there : goal.write_attribute-requires-clause-there
write_attribute-requires-clause-there c =
    let s = c.self.inside in
    let fit = c.self.invariant.furnished in
    let x = c.in-Attribute.attr in
    let below : x < length (attributes s.model) = subst (λ (w : What). IsPlainRole (length (attributes s.model)) (length s.model.blocks) (length s.model.controls) (HasGroups s.model) (role_seen w)) c.in-Attribute.is (role-told s.model c.args.node.0 c.role_of.result fit.servable.grouped c.role_of.ensures) in
    subst (λ (t : State). x < length t.stored) c.self.view_is (omega (arith, below, fit.values.count))

pub write_at_arrival-requires-clause-there : goal.write_at_arrival-requires-clause-there
write_at_arrival-requires-clause-there c =
    let s = c.self.inside in
    let fit = c.self.invariant.furnished in
    let b = c.in-Component.b in
    let below : b < length s.model.blocks = subst (λ (w : What). IsPlainRole (length (attributes s.model)) (length s.model.blocks) (length s.model.controls) (HasGroups s.model) (role_seen w)) c.in-Component.is (role-told s.model c.args.node.0 c.role_of.result fit.servable.grouped c.role_of.ensures) in
    subst (λ (t : State). b < length t.parts) c.self.view_is (omega (arith, below, fit.count))

pub unreachable-requires : goal.unreachable-requires
unreachable-requires c =
    let role : role_seen (whats.Calling c.in-Calling.field-0 c.in-Calling.field-1) ≡ (node_of (configured_model c.args.self.now.config) c.args.node.0).role
    = ap role_seen (sym c.in-Calling.is) ∙ (c.role_of.ensures ∙ ap (λ (t : State). (node_of (configured_model t.config) c.args.node.0).role) c.self.view_is) in
    subst IsNoCommand (sym role) c.requires.plain

pub returns-in-Attribute-clause-written : goal.returns-in-Attribute-clause-written
returns-in-Attribute-clause-written c =
    let z = c.args.self.now in
    let role : single (attribute c.in-Attribute.attr) ≡ (node_of (configured_model z.config) c.args.node.0).role
    = ap role_seen (sym c.in-Attribute.is) ∙ (c.role_of.ensures ∙ ap (λ (t : State). (node_of (configured_model t.config) c.args.node.0).role) c.self.view_is) in
    by-role z c.write_attribute.new.self c.args.a.0 c.args.node.0 c.args.value.now (single (attribute c.in-Attribute.attr)) c.write_attribute.result role c.write_attribute.ensures.written

pub returns-in-Component-clause-kept : goal.returns-in-Component-clause-kept
returns-in-Component-clause-kept c =
    let s = c.self.inside in
    let fit = c.self.invariant.furnished in
    let b = c.in-Component.b in
    let below : b < length s.model.blocks = subst (λ (w : What). IsPlainRole (length (attributes s.model)) (length s.model.blocks) (length s.model.controls) (HasGroups s.model) (role_seen w)) c.in-Component.is (role-told s.model c.args.node.0 c.role_of.result fit.servable.grouped c.role_of.ensures) in
    let part = get-within c.args.self.now.parts b (subst (λ (t : State). b < length t.parts) c.self.view_is (omega (arith, below, fit.count))) in
    let wrote = c.write_at_arrival.ensures.written part.0 part.1 in
    record { config = ap (λ (t : State). t.config) wrote; steps = ap (λ (t : State). t.steps) wrote; rows = ap (λ (t : State). t.rows) wrote }

pub returns-in-Component-clause-controls : goal.returns-in-Component-clause-controls
returns-in-Component-clause-controls c =
    let s = c.self.inside in
    let fit = c.self.invariant.furnished in
    let b = c.in-Component.b in
    let below : b < length s.model.blocks = subst (λ (w : What). IsPlainRole (length (attributes s.model)) (length s.model.blocks) (length s.model.controls) (HasGroups s.model) (role_seen w)) c.in-Component.is (role-told s.model c.args.node.0 c.role_of.result fit.servable.grouped c.role_of.ensures) in
    let part = get-within c.args.self.now.parts b (subst (λ (t : State). b < length t.parts) c.self.view_is (omega (arith, below, fit.count))) in
    ap (λ (t : State). t.controls) (c.write_at_arrival.ensures.written part.0 part.1)

pub returns-in-Component-clause-written : goal.returns-in-Component-clause-written
returns-in-Component-clause-written c =
    let s = c.self.inside in
    let z = c.args.self.now in
    let fit = c.self.invariant.furnished in
    let b = c.in-Component.b in
    let below : b < length s.model.blocks = subst (λ (w : What). IsPlainRole (length (attributes s.model)) (length s.model.blocks) (length s.model.controls) (HasGroups s.model) (role_seen w)) c.in-Component.is (role-told s.model c.args.node.0 c.role_of.result fit.servable.grouped c.role_of.ensures) in
    let part = get-within z.parts b (subst (λ (t : State). b < length t.parts) c.self.view_is (omega (arith, below, fit.count))) in
    let role : single (component b c.in-Component.comp) ≡ (node_of (configured_model z.config) c.args.node.0).role
    = ap role_seen (sym c.in-Component.is) ∙ (c.role_of.ensures ∙ ap (λ (t : State). (node_of (configured_model t.config) c.args.node.0).role) c.self.view_is) in
    by-role z c.write_at_arrival.new.self c.args.a.0 c.args.node.0 c.args.value.now (single (component b c.in-Component.comp)) c.write_at_arrival.result role
    (component-write z c.write_at_arrival.new.self c.args.a b c.in-Component.comp c.args.value.now part.0 c.write_at_arrival.result c.requires.number c.requires.is_open part.1 (c.write_at_arrival.ensures.general part.0 part.1) (c.write_at_arrival.ensures.answer part.0 part.1) (c.write_at_arrival.ensures.written part.0 part.1))

pub write_part-requires : goal.write_part-requires
write_part-requires c =
    let s = c.self.inside in
    let fit = c.self.invariant.furnished in
    let some : HasGroups s.model c.in-Setting.domain = subst (λ (w : What). IsPlainRole (length (attributes s.model)) (length s.model.blocks) (length s.model.controls) (HasGroups s.model) (role_seen w)) c.in-Setting.is (role-told s.model c.args.node.0 c.role_of.result fit.servable.grouped c.role_of.ensures) in
    record { grouped = subst (λ (t : State). HasGroups t.config c.in-Setting.domain) c.self.view_is some }

pub returns-in-Setting-clause-written : goal.returns-in-Setting-clause-written
returns-in-Setting-clause-written c =
    let z = c.args.self.now in
    let role : single (setting c.in-Setting.domain c.in-Setting.part) ≡ (node_of (configured_model z.config) c.args.node.0).role
    = ap role_seen (sym c.in-Setting.is) ∙ (c.role_of.ensures ∙ ap (λ (t : State). (node_of (configured_model t.config) c.args.node.0).role) c.self.view_is) in
    by-role z c.write_part.new.self c.args.a.0 c.args.node.0 c.args.value.now (single (setting c.in-Setting.domain c.in-Setting.part)) c.write_part.result role c.write_part.ensures.written

pub returns-in-Structure-clause-written : goal.returns-in-Structure-clause-written
returns-in-Structure-clause-written c =
    let z = c.args.self.now in
    let role : several ≡ (node_of (configured_model z.config) c.args.node.0).role
    = ap role_seen (sym c.in-Structure.is) ∙ (c.role_of.ensures ∙ ap (λ (t : State). (node_of (configured_model t.config) c.args.node.0).role) c.self.view_is) in
    by-role z z c.args.a.0 c.args.node.0 c.args.value.now several (Err 3) role (refused-write z 3)

pub returns-in-Withheld-clause-written : goal.returns-in-Withheld-clause-written
returns-in-Withheld-clause-written c =
    let z = c.args.self.now in
    let role : single withheld ≡ (node_of (configured_model z.config) c.args.node.0).role
    = ap role_seen (sym c.in-Withheld.is) ∙ (c.role_of.ensures ∙ ap (λ (t : State). (node_of (configured_model t.config) c.args.node.0).role) c.self.view_is) in
    by-role z z c.args.a.0 c.args.node.0 c.args.value.now (single withheld) (Err 3) role (refused-write z 3)

pub returns-in-Selecting-clause-written : goal.returns-in-Selecting-clause-written
returns-in-Selecting-clause-written c =
    let z = c.args.self.now in
    let v = c.args.value.now in
    let role : selecting c.in-Selecting.field-0 ≡ (node_of (configured_model z.config) c.args.node.0).role
    = ap role_seen (sym c.in-Selecting.is) ∙ (c.role_of.ensures ∙ ap (λ (t : State). (node_of (configured_model t.config) c.args.node.0).role) c.self.view_is) in
    subst (λ (k : ℕ). IsWrite z z (λ m past. write_node m c.args.a.0 c.args.node.0 v past) (Err k)) (sym c.selecting_code.ensures)
    (by-role z z c.args.a.0 c.args.node.0 v (selecting c.in-Selecting.field-0) (Err (if is_kind (text 129) v then 3 else 7)) role (refused-write z (if is_kind (text 129) v then 3 else 7)))
