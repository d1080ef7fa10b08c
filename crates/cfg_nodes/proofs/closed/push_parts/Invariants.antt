-- what the loops of `closed::push_parts` keep
use Rattle.std.proofs.Common.{◌≡◌, ◌++◌, map, take}
use Rattle.sv_base.specs.CallParts.{part_name}
use Rattle.cfg_lines.specs.Nodes.{all_below}
use Rattle.cfg_nodes.proofs.closed.push_parts.Given as goal

abbrev pub invariant-loop-part : goal.invariant-loop-part
invariant-loop-part l = l.names.items ≡ l.initial.names.items ++ all_below l.front (map part_name (take l.part-index l.parts))
