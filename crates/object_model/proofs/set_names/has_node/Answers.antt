-- why `set_names::has_node` answers as its contract says
use Rattle.std.proofs.Common.{◌∙◌}
use Rattle.object_model.proofs.SetNameLaws.{has-told}
use Rattle.object_model.proofs.set_names.has_node.Goals as goal

pub returns : goal.returns
returns c = c.is_some.ensures ∙ has-told c.args.model.now c.resolve.result c.args.domain.now c.args.node.now c.resolve.ensures
