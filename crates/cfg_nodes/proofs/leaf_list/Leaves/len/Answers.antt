-- why `leaf_list::Leaves::len` answers as its contract says
use Rattle.std.proofs.Common.{length, ap, ◌∙◌}
use Rattle.cfg_nodes.proofs.IndexLaws.{leaves-count}
use Rattle.cfg_nodes.proofs.leaf_list.Leaves.len.Goals as goal

pub returns : goal.returns
returns c = c.len.ensures ∙ (c.self.inside.octets.ok.0 ∙ (leaves-count c.self.inside.names c.self.inside.octets.items c.self.invariant ∙ ap length c.self.view_is))
