-- what the loops of `closed::closed_of` keep
use Rattle.std.proofs.Common.{◌≡◌, take, reverse}
use Rattle.cfg_lines.specs.Nodes.{closed}
use Rattle.cfg_nodes.proofs.closed.closed_of.Given as goal

abbrev pub invariant-loop-line : goal.invariant-loop-line
invariant-loop-line l = l.names.items ≡ closed (reverse (take l.line-index l.lines))
