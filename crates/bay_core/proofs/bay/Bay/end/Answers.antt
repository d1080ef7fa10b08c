-- why `bay::Bay::end` answers as its contract says
use Rattle.std.proofs.Common.{◌≡◌, List, map, refl, ap, ap₂, sym, subst, ◌∙◌, vec_capacity}
use Rattle.assoc_table.specs.Tables.{ended}
use Rattle.bay_model.specs.Configured.{control_defined}
use Rattle.bay_model.specs.Points.{lost}
use Rattle.control_core.specs.Tables.{after_deed}
use Rattle.bay_queues.specs.Queued.{Queued, configs}
use Rattle.report_block.specs.declared.block.ReportBlock.{ReportBlock}
use Rattle.report_block.specs.Writes.{lost_by}
use Rattle.setting_groups.specs.Grouped.{Grouped, after_loss}
use Rattle.setting_groups.proofs.FrameLaws.{fit-loss}
use Rattle.bay_values.specs.Held.{AreGrouped, IsSoundCell}
use Rattle.block_events.specs.Parting.{after_loss_all}
use Rattle.bay_core.specs.State.{State, IsFurnished}
use Rattle.bay_queues.proofs.ControlLaws.{configs-deed}
use Rattle.bay_core.proofs.FurnishLaws.{furnished-map}
use Rattle.block_events.proofs.QuietLaws.{quiet-map}
use Rattle.bay_core.proofs.bay.Bay.end.Goals as goal

pub invariant_of-self : goal.invariant_of-self
invariant_of-self c = record {
  furnished = subst (λ ps. IsFurnished c.self.inside.model c.self.inside.values c.self.inside.sets ps c.self.inside.watch c.self.inside.octets (vec_capacity c.self.inside.changes)) (sym c.lose_all.ensures)
      (furnished-map c.self.inside.model c.self.inside.values c.self.inside.sets c.self.inside.parts.items c.self.inside.watch c.self.inside.octets (vec_capacity c.self.inside.changes) c.self.invariant.furnished (lost_by c.args.a c.self.inside.latest) (λ p. refl) (λ p. refl) (λ p. refl));
  quiet = quiet-map c.self.inside.latest c.self.inside.dues (lost_by c.args.a c.self.inside.latest) (λ p. refl) c.self.inside.parts.items c.lose_all.new.parts.items c.lose_all.ensures c.self.invariant.quiet;
  grouped = subst (AreGrouped c.self.inside.model) (sym c.lost.ensures) (fit-loss c.self.inside.model IsSoundCell c.self.inside.groups c.self.invariant.grouped c.args.a.0);
  roomy = c.self.invariant.roomy;
  controls = subst (λ (q : Queued). configs q.table ≡ map control_defined c.self.inside.model.controls) (sym c.end.ensures) (configs-deed (lost c.args.a.0) c.self.inside.associations.table ∙ c.self.invariant.controls);
}

pub returns : goal.returns
returns c =
    let s = c.self.inside in
    ap₂ (λ (ps : List ReportBlock) (q : Queued). record { config = s.model; steps = s.steps; latest = s.latest; stored = s.values; book = s.sets; parts = ps; rows = q.rows; groups = c.lost.new.self; controls = q.table }) c.lose_all.ensures c.end.ensures
    ∙ (ap (λ (g : Grouped). record { config = s.model; steps = s.steps; latest = s.latest; stored = s.values; book = s.sets; parts = after_loss_all c.args.a s.latest s.parts.items; rows = ended s.associations.rows c.args.a.0; groups = g; controls = after_deed (lost c.args.a.0) s.associations.table }) c.lost.ensures
    ∙ ap (λ (t : State). record t { rows = ended t.rows c.args.a.0; parts = after_loss_all c.args.a t.latest t.parts; groups = after_loss c.args.a.0 t.groups; controls = after_deed (lost c.args.a.0) t.controls }) c.self.view_is)
