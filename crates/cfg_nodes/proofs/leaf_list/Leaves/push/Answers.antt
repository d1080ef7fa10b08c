-- why `leaf_list::Leaves::push` answers as its contract says
use Rattle.std.proofs.Common.{◌++◌, ◌∷◌, [], ap, ap₂, ◌∙◌}
use Rattle.cfg_nodes.specs.LeafLists.{leaves_at}
use Rattle.cfg_nodes.proofs.IndexLaws.{leaves-pushed}
use Rattle.cfg_nodes.proofs.leaf_list.Leaves.push.Goals as goal

pub returns-in-Ok : goal.returns-in-Ok
returns-in-Ok c = ap₂ leaves_at c.in_ok-push.ensures.ok c.in-Ok.ensures.items
    ∙ (leaves-pushed c.self.inside.names c.self.inside.octets.items c.args.name.now c.args.octets c.self.invariant ∙ ap (λ leaves. leaves ++ (record { name = c.args.name.now; octets = c.args.octets }) ∷ []) c.self.view_is)
