-- what the loops of `sendable::are_nodes` keep
use Rattle.std.proofs.Common.{◌≡◌, drop}
use Rattle.output_pdus.specs.Sendable.{are_nodes}
use Rattle.output_pdus.proofs.sendable.are_nodes.Given as goal

abbrev pub invariant-loop-node : goal.invariant-loop-node
invariant-loop-node l = are_nodes l.count (drop l.node-index l.nodes) ≡ are_nodes l.count l.nodes
