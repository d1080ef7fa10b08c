-- why `bay::Bay::end_execution` answers as its contract says
use Rattle.std.proofs.Common.{◌≡◌, ◌<◌, ◌∙◌, map, length, ap, sym, subst, arith}
use Rattle.std.proofs.lemmas.List.{length-map}
use Rattle.bay_model.specs.Configured.{control_defined}
use Rattle.bay_model.specs.Points.{finished}
use Rattle.bay_queues.specs.Queued.{Queued, configs}
use Rattle.bay_core.specs.Commanded.{after_end}
use Rattle.bay_core.specs.State.{State}
use Rattle.bay_queues.proofs.ControlLaws.{configs-deed, control-count}
use Rattle.bay_core.proofs.bay.Bay.end_execution.Goals as goal

pub done-requires : goal.done-requires
done-requires c =
    let s = c.self.inside in
    let below : c.args.control.0 < length s.model.controls = subst (λ (t : State). c.args.control.0 < length t.config.controls) (sym c.self.view_is) c.requires in
    omega (arith, below, control-count s.associations.table (map control_defined s.model.controls) c.self.invariant.controls, length-map s.model.controls control_defined)

pub invariant_of-self : goal.invariant_of-self
invariant_of-self c =
    let s = c.self.inside in
    let whole = c.self.invariant in
    record {
      furnished = whole.furnished;
      grouped = whole.grouped;
      quiet = whole.quiet;
      roomy = whole.roomy;
      controls = subst (λ (q : Queued). configs q.table ≡ map control_defined s.model.controls) (sym c.done.ensures.left) (configs-deed (finished c.args.control.0 c.args.good) s.associations.table ∙ whole.controls);
    }

pub returns-clause-state : goal.returns-clause-state
returns-clause-state c =
    let s = c.self.inside in
    ap (λ (q : Queued). record { config = s.model; steps = s.steps; latest = s.latest; stored = s.values; book = s.sets; parts = s.parts.items; rows = q.rows; groups = s.groups; controls = q.table }) c.done.ensures.left
    ∙ ap (after_end c.args.control c.args.good) c.self.view_is
