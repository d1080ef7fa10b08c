-- what the loops of `leaves::leaves_of` keep
use Rattle.std.proofs.Common.{◌≡◌, take, reverse}
use Rattle.cfg_lines.specs.Nodes.{leaves}
use Rattle.cfg_nodes.specs.Asked.{wanted, IsRight}
use Rattle.cfg_nodes.proofs.leaves.leaves_of.Given as goal

abbrev pub invariant-loop-line : goal.invariant-loop-line
invariant-loop-line l = record {
  leaves : l.leaves ≡ wanted l.asked (leaves (reverse (take l.line-index l.lines)));
  spot : IsRight l.asked l.spot;
}
