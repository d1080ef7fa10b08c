-- why `bay::Bay::call` answers as its contract says
use Rattle.std.proofs.Common.{◌≡◌, ◌<◌, ◌∙◌, List, map, length, ap, sym, subst, arith}
use Rattle.std.proofs.lemmas.List.{length-map}
use Rattle.bay_model.specs.Configured.{control_defined}
use Rattle.bay_model.specs.Model.{Control}
use Rattle.bay_model.specs.Outcomes.{deed_of}
use Rattle.bay_queues.specs.Calling.{blame_in, enhanced_in, outcome_at}
use Rattle.bay_queues.specs.Heard.{heard_with}
use Rattle.bay_queues.specs.Queued.{Queued, configs}
use Rattle.bay_core.specs.Commanded.{AreTestsOf, after_call}
use Rattle.bay_core.specs.State.{State}
use Rattle.bay_queues.proofs.ControlLaws.{configs-deed, control-count}
use Rattle.bay_core.proofs.bay.Bay.call.Goals as goal

pub call-requires-clause-control : goal.call-requires-clause-control
call-requires-clause-control c =
    let s = c.self.inside in
    let below : c.args.control.0 < length s.model.controls = subst (λ (t : State). c.args.control.0 < length t.config.controls) (sym c.self.view_is) c.requires.control in
    omega (arith, below, control-count s.associations.table (map control_defined s.model.controls) c.self.invariant.controls, length-map s.model.controls control_defined)

pub call-requires-clause-blame : goal.call-requires-clause-blame
call-requires-clause-blame c =
    let s = c.self.inside in
    c.requires.blame ∙ sym (ap (λ (cs : List Control). blame_in cs c.args.control.0 c.args.call c.args.value.now) c.self.invariant.controls
    ∙ ap (λ (t : State). blame_in (map control_defined t.config.controls) c.args.control.0 c.args.call c.args.value.now) c.self.view_is)

pub invariant_of-self : goal.invariant_of-self
invariant_of-self c =
    let s = c.self.inside in
    let whole = c.self.invariant in
    record {
      furnished = whole.furnished;
      grouped = whole.grouped;
      quiet = whole.quiet;
      roomy = whole.roomy;
      controls = subst (λ (q : Queued). configs q.table ≡ map control_defined s.model.controls) (sym c.call.ensures.left)
          (configs-deed (deed_of (outcome_at s.associations.table c.args.a.0 c.args.control.0 c.args.call c.args.value.now)) s.associations.table ∙ whole.controls);
    }

pub returns-clause-state : goal.returns-clause-state
returns-clause-state c =
    let s = c.self.inside in
    ap (λ (q : Queued). record { config = s.model; steps = s.steps; latest = s.latest; stored = s.values; book = s.sets; parts = s.parts.items; rows = q.rows; groups = s.groups; controls = q.table }) c.call.ensures.left
    ∙ ap (after_call c.args.a.0 c.args.control.0 c.args.call c.args.value.now) c.self.view_is

pub returns-clause-heard : goal.returns-clause-heard
returns-clause-heard c =
    c.call.ensures.heard ∙ ap (λ (t : State). heard_with (enhanced_in t.controls) (outcome_at t.controls c.args.a.0 c.args.control.0 c.args.call c.args.value.now) c.args.heard.now) c.self.view_is

pub returns-clause-tests : goal.returns-clause-tests
returns-clause-tests c = λ are. c.call.ensures.tests (subst (λ (t : State). AreTestsOf t c.args.a.0 c.args.heard.now.tests) (sym c.self.view_is) are)
