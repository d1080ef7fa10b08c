-- why `bay::Bay::turn` answers as its contract says
use Rattle.std.proofs.Common.{◌∙◌, List, ap, sym, subst}
use Rattle.std.specs.List.{All}
use Rattle.bay_model.specs.declared.request.Target.{Target}
use Rattle.bay_queues.specs.Queued.{Queued, configs}
use Rattle.bay_replies.specs.Reading.{IsTarget}
use Rattle.bay_core.specs.State.{State}
use Rattle.bay_core.specs.Turned.{after_turns, in_turns}
use Rattle.bay_core.proofs.TurnLaws.{turns-configs}
use Rattle.bay_core.proofs.bay.Bay.turn.Goals as goal

pub read_all-requires-clause-there : goal.read_all-requires-clause-there
read_all-requires-clause-there c =
    subst (All (IsTarget c.self.inside.model)) (sym c.as_slice.ensures) (subst (λ (s : State). All (IsTarget s.config) c.args.targets.now) (sym c.self.view_is) c.requires)

pub invariant_of-self : goal.invariant_of-self
invariant_of-self c =
    let i = c.self.invariant in
    let q = c.self.inside.associations in
    record {
      furnished = i.furnished;
      grouped = i.grouped;
      quiet = i.quiet;
      roomy = i.roomy;
      controls = ap (λ (p : Queued). configs p.table) c.read_all.ensures.controls ∙ (turns-configs c.args.a.0 c.self.inside.model c.as_slice.result.now q.table ∙ i.controls);
    }

pub returns-clause-controls : goal.returns-clause-controls
returns-clause-controls c =
    let s = c.self.inside in
    let a = c.args.a.0 in
    ap (λ (p : Queued). record { config = s.model; steps = s.steps; latest = s.latest; stored = s.values; book = s.sets; parts = s.parts.items; rows = p.rows; groups = s.groups; controls = p.table })
    (c.read_all.ensures.controls ∙ ap (λ (ts : List Target). record s.associations { table = after_turns a s.model ts s.associations.table }) c.as_slice.ensures)
    ∙ ap (λ (w : State). record w { controls = after_turns a w.config c.args.targets.now w.controls }) c.self.view_is

pub returns-clause-results : goal.returns-clause-results
returns-clause-results c =
    let s = c.self.inside in
    let a = c.args.a.0 in
    let rs = c.args.read.now.results.items in
    c.read_all.ensures.results ∙ (ap (λ (ts : List Target). in_turns a s.model ts s.associations.table rs) c.as_slice.ensures ∙ ap (λ (w : State). in_turns a w.config c.args.targets.now w.controls rs) c.self.view_is)
