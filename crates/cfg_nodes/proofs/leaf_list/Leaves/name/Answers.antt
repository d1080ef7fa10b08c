-- why `leaf_list::Leaves::name` answers as its contract says
use Rattle.std.proofs.Common.{[], map, slice_get, unwrap_or, sym, ap, ◌∙◌}
use Rattle.cfg_nodes.proofs.IndexLaws.{names-at, value-or}
use Rattle.cfg_nodes.proofs.leaf_list.Leaves.name.Goals as goal

pub returns : goal.returns
returns c = ap (λ v. v.now) c.unwrap_or.ensures ∙ (value-or c.get.result _ ∙ (ap (λ r. unwrap_or r []) c.get.ensures
    ∙ ap (λ ns. unwrap_or (slice_get ns c.args.place) []) (sym (names-at c.self.inside.names c.self.inside.octets.items c.self.invariant) ∙ ap (λ leaves. map (λ leaf. leaf.name) leaves) c.self.view_is)))
