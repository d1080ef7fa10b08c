-- why `bay::Bay::write_in_turn` answers as its contract says
use Rattle.std.proofs.Common.{◌≡◌, ◌<◌, ◌∙◌, length, ap, sym, subst}
use Rattle.name_leaves.specs.declared.what.What.{What}
use Rattle.name_leaves.specs.declared.what.What.TheVariants as whats
use Rattle.name_leaves.specs.Seen.{role_seen}
use Rattle.bay_model.specs.Attributes.{attributes}
use Rattle.bay_model.specs.Lookups.{node_of}
use Rattle.bay_model.specs.Named.{configured_model}
use Rattle.bay_replies.specs.Plain.{HasGroups, IsPlainRole}
use Rattle.bay_core.specs.State.{State}
use Rattle.bay_core.proofs.BlameLaws.{blame-told, role-plain}
use Rattle.bay_core.proofs.CalledLaws.{called-single, node-single}
use Rattle.bay_core.proofs.SingleLaws.{role-told}
use Rattle.bay_core.proofs.bay.Bay.write_in_turn.Goals as goal

pub call-requires-clause-control : goal.call-requires-clause-control
call-requires-clause-control c =
    let s = c.self.inside in
    subst (λ (t : State). c.in-Calling.control < length t.config.controls) c.self.view_is
    (subst (λ (w : What). IsPlainRole (length (attributes s.model)) (length s.model.blocks) (length s.model.controls) (HasGroups s.model) (role_seen w)) c.in-Calling.is (role-told s.model c.args.node.0 c.role_of.result c.self.invariant.furnished.servable.grouped c.role_of.ensures))

pub call-requires-clause-blame : goal.call-requires-clause-blame
call-requires-clause-blame c =
    let z = c.args.self.now in
    let v = c.args.value.now in
    let role : role_seen (whats.Calling c.in-Calling.control c.in-Calling.call) ≡ (node_of (configured_model z.config) c.args.node.0).role
    = ap role_seen (sym c.in-Calling.is) ∙ (c.role_of.ensures ∙ ap (λ (t : State). (node_of (configured_model t.config) c.args.node.0).role) c.self.view_is) in
    c.requires.blame ∙ sym (blame-told z.config c.args.node.0 v c.in-Calling.control c.in-Calling.call role)

pub returns-in-Calling : goal.returns-in-Calling
returns-in-Calling c =
    let z = c.args.self.now in
    let a = c.args.a.0 in
    let v = c.args.value.now in
    let k = c.in-Calling.control in
    let h = c.args.heard.now in
    let role : role_seen (whats.Calling k c.in-Calling.call) ≡ (node_of (configured_model z.config) c.args.node.0).role
    = ap role_seen (sym c.in-Calling.is) ∙ (c.role_of.ensures ∙ ap (λ (t : State). (node_of (configured_model t.config) c.args.node.0).role) c.self.view_is) in
    let s = c.self.inside in
    let below : k < length z.config.controls
    = subst (λ (t : State). k < length t.config.controls) c.self.view_is
    (subst (λ (w : What). IsPlainRole (length (attributes s.model)) (length s.model.blocks) (length s.model.controls) (HasGroups s.model) (role_seen w)) c.in-Calling.is (role-told s.model c.args.node.0 c.role_of.result c.self.invariant.furnished.servable.grouped c.role_of.ensures)) in
    record {
      single = called-single z c.call.new.self a c.args.node.0 k c.in-Calling.call v h c.call.new.heard role below
          c.call.ensures.heard c.call.ensures.state c.call.ensures.tests;
    }

pub write_node-code-requires-clause-plain : goal.write_node-code-requires-clause-plain
write_node-code-requires-clause-plain c =
    let z = c.args.self.now in
    role-plain c.role_of.result (node_of (configured_model z.config) c.args.node.0).role c.in_default.not-Calling (c.role_of.ensures ∙ ap (λ (t : State). (node_of (configured_model t.config) c.args.node.0).role) c.self.view_is)

pub returns-in_default : goal.returns-in_default
returns-in_default c =
    let z = c.args.self.now in
    record {
      single = node-single z c.write_node-code.new.self c.args.a.0 c.args.node.0 c.args.value.now c.write_node-code.result c.args.heard.now c.code.new.self c.write_node-code.ensures.kept c.write_node-code.ensures.controls
          (role-plain c.role_of.result (node_of (configured_model z.config) c.args.node.0).role c.in_default.not-Calling (c.role_of.ensures ∙ ap (λ (t : State). (node_of (configured_model t.config) c.args.node.0).role) c.self.view_is))
          c.write_node-code.ensures.written c.code.ensures;
    }
