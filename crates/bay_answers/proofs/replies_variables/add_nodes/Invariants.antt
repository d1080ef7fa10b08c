-- what the loops of `replies_variables::add_nodes` keep
use Rattle.std.proofs.Common.{◌≡◌, ◌++◌, drop}
use Rattle.std.specs.List.{flat_map}
use Rattle.bay_answers.specs.RepliesVariables.{node_octets}
use Rattle.bay_answers.proofs.replies_variables.add_nodes.Given as goal

-- what is written and what is left to write make what is wanted
abbrev pub invariant-loop-node : goal.invariant-loop-node
invariant-loop-node l = l.out.items ++ flat_map (node_octets l.model) (drop l.node-index l.nodes) ≡ l.fn.out.items ++ flat_map (node_octets l.model) l.nodes
