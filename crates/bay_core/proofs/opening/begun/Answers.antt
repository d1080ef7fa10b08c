-- why `opening::begun` answers as its contract says
use Rattle.std.proofs.Common.{◌≡◌, refl, ap, subst, sym, map, vec_capacity}
use Rattle.bay_model.specs.Configured.{control_defined}
use Rattle.bay_queues.specs.Queued.{Queued, configs}
use Rattle.bay_values.specs.Held.{AreGrouped}
use Rattle.bay_values.proofs.GroupLaws.{grouped-first}
use Rattle.bay_core.proofs.FirstState.{furnished-first, stands-first, configs-opened}
use Rattle.block_events.proofs.QuietLaws.{quiet-first}
use Rattle.bay_core.proofs.opening.begun.Goals as goal

pub invariant_of-result : goal.invariant_of-result
invariant_of-result c = record {
  furnished = furnished-first c.args.made.model c.args.made.values c.args.made.sets c.args.made.parts.items c.args.made.watch c.args.made.rooms.octets (vec_capacity c.args.made.rooms.changes) c.requires.servable c.requires.values c.requires.sets c.requires.parts c.requires.watch c.requires.octets c.requires.changes;
  grouped = subst (AreGrouped c.args.made.model) (sym c.requires.groups) (grouped-first c.args.made.model c.requires.servable);
  quiet = quiet-first c.first.result c.args.made.rooms.dues c.args.made.parts.items c.requires.dues;
  roomy = c.requires.events;
  controls = subst (λ (q : Queued). configs q.table ≡ map control_defined c.args.made.model.controls) (sym c.requires.associations) (configs-opened (map control_defined c.args.made.model.controls));
}

pub returns-clause-stands : goal.returns-clause-stands
returns-clause-stands c = stands-first _ c.args.made.model c.requires.servable refl refl c.first.ensures c.requires.values c.requires.sets c.requires.parts (ap (λ (q : Queued). q.rows) c.requires.associations) (ap (λ (q : Queued). q.table) c.requires.associations) c.requires.groups
