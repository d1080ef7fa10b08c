-- what the loops of `nodes::Nodes::octets` keep, and why they end
use Rattle.std.proofs.Common.{◌≡◌, ◌≤◌, ◌-◌, take}
use Rattle.std.specs.List.{sum_by}
use Rattle.cfg_lines.specs.Sizes.{octets_of}
use Rattle.cfg_nodes.specs.Indexed.{octets_in, parts_in}
use Rattle.cfg_nodes.proofs.nodes.Nodes.+octets.Given as goal

abbrev pub decreases-octets : goal.decreases-octets
decreases-octets l = l.depth

abbrev pub invariant-loop-part : goal.invariant-loop-part
invariant-loop-part l = record {
  few : l.sum ≤ 500;
  is_sum : l.sum ≡ sum_by (λ part. octets_of (l.depth - 1) (octets_in l.self.sizes) (parts_in l.self.parts) part.now) (take l.part-index l.part-items);
}
