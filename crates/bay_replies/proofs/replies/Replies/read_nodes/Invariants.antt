-- what the loops of `replies::Replies::read_nodes` keep
use Rattle.std.proofs.Common.{◌≡◌, ◌+◌, ◌++◌, length, map, drop}
use Rattle.sv_base.specs.declared.numbers.NodeId.{NodeId}
use Rattle.bay_replies.specs.Given.{node_read}
use Rattle.bay_replies.proofs.SizeLaws.{octets}
use Rattle.bay_replies.proofs.replies.Replies.read_nodes.Given as goal

abbrev pub invariant-loop-node : goal.invariant-loop-node
invariant-loop-node l = record {
  read : l.results.items ++ map (λ (x : NodeId). node_read l.self x.0) (drop l.node-index l.nodes) ≡ map (λ (x : NodeId). node_read l.self x.0) l.nodes;
  count : length (octets l.results.items) + l.left ≡ l.size;
}
