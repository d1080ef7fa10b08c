-- what the loops of `lines::push_nodes` keep
use Rattle.std.proofs.Common.{◌≡◌, ◌++◌, map, take}
use Rattle.bay_model.specs.NamedLines.{node_line}
use Rattle.object_names.proofs.lines.push_nodes.Given as goal

abbrev pub invariant-loop-node : goal.invariant-loop-node
invariant-loop-node l = l.out.items ≡ l.initial.out.items ++ map node_line (take l.node-index l.nodes)
