-- why `bay::Bay::blame_of` answers as its contract says
use Rattle.std.proofs.Common.{◌≡◌, ◌<◌, ◌∙◌, List, Option, Result, Ok, Err, map, length, ap, sym, subst, arith}
use Rattle.std.specs.Prelude.{IfOk}
use Rattle.std.proofs.lemmas.List.{length-map}
use Rattle.name_leaves.specs.declared.what.What.{What}
use Rattle.name_leaves.specs.declared.what.What.TheVariants as whats
use Rattle.name_leaves.specs.Seen.{role_seen}
use Rattle.bay_model.specs.declared.control.ApplError.{ApplError}
use Rattle.bay_model.specs.Attributes.{attributes}
use Rattle.bay_model.specs.Configured.{control_defined}
use Rattle.bay_model.specs.Lookups.{node_of}
use Rattle.bay_model.specs.Model.{Control}
use Rattle.bay_model.specs.Named.{configured_model}
use Rattle.bay_queues.specs.Calling.{blame_in}
use Rattle.bay_replies.specs.Plain.{HasGroups, IsPlainRole}
use Rattle.bay_core.specs.Commanded.{blame_at}
use Rattle.bay_core.specs.State.{State}
use Rattle.bay_core.proofs.BlameLaws.{blame-told, no-blame, role-plain}
use Rattle.bay_queues.proofs.ControlLaws.{control-count}
use Rattle.bay_core.proofs.SingleLaws.{role-told}
use Rattle.bay_core.proofs.bay.Bay.blame_of.Goals as goal

pub blame-requires : goal.blame-requires
blame-requires c =
    let s = c.self.inside in
    let below : c.in-Calling.control < length s.model.controls
    = subst (λ (w : What). IsPlainRole (length (attributes s.model)) (length s.model.blocks) (length s.model.controls) (HasGroups s.model) (role_seen w)) c.in-Calling.is (role-told s.model c.args.node.0 c.role_of.result c.self.invariant.furnished.servable.grouped c.role_of.ensures) in
    omega (arith, below, control-count s.associations.table (map control_defined s.model.controls) c.self.invariant.controls, length-map s.model.controls control_defined)

told : {E : Type 0} (r : Result (Option ApplError) E) (e f : Option ApplError) → e ≡ f → IfOk r (λ o. o ≡ e) → IfOk r (λ o. o ≡ f)
told (Ok o) e f same is = is ∙ same
told (Err x) e f same is = is

pub returns-in-Calling : goal.returns-in-Calling
returns-in-Calling c =
    let s = c.self.inside in
    let v = c.args.value.now in
    let role : role_seen (whats.Calling c.in-Calling.control c.in-Calling.call) ≡ (node_of (configured_model s.model) c.args.node.0).role = ap role_seen (sym c.in-Calling.is) ∙ c.role_of.ensures in
    told c.blame.result _ _
    (ap (λ (cs : List Control). blame_in cs c.in-Calling.control c.in-Calling.call v) c.self.invariant.controls
    ∙ (blame-told s.model c.args.node.0 v c.in-Calling.control c.in-Calling.call role ∙ ap (λ (t : State). blame_at t.config c.args.node.0 v) c.self.view_is))
    c.blame.ensures

pub returns-in_default : goal.returns-in_default
returns-in_default c =
    let s = c.self.inside in
    let v = c.args.value.now in
    no-blame s.model v (node_of (configured_model s.model) c.args.node.0).role (role-plain c.role_of.result (node_of (configured_model s.model) c.args.node.0).role c.in_default.not-Calling c.role_of.ensures)
    ∙ ap (λ (t : State). blame_at t.config c.args.node.0 v) c.self.view_is
