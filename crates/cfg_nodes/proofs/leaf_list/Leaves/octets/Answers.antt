-- why `leaf_list::Leaves::octets` answers as its contract says
use Rattle.std.proofs.Common.{map, slice_get, sym, ap, ◌∙◌}
use Rattle.sv_base.proofs.GetLaws.{got}
use Rattle.cfg_nodes.proofs.IndexLaws.{octets-at}
use Rattle.cfg_nodes.proofs.leaf_list.Leaves.octets.Goals as goal

pub returns : goal.returns
returns c = c.copied.ensures ∙ (got _ _ _ c.get.ensures.lookup.3 ∙ (ap (λ os. slice_get os c.args.place) c.deref.ensures.value
    ∙ ap (λ os. slice_get os c.args.place) (sym (octets-at c.self.inside.names c.self.inside.octets.items c.self.invariant) ∙ ap (λ leaves. map (λ leaf. leaf.octets) leaves) c.self.view_is)))
