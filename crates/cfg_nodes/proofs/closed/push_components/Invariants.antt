-- what the loops of `closed::push_components` keep
use Rattle.std.proofs.Common.{◌≡◌, ◌++◌, map, take}
use Rattle.sv_base.specs.ComponentTable.{comp_name}
use Rattle.cfg_lines.specs.Nodes.{all_below}
use Rattle.cfg_nodes.proofs.closed.push_components.Given as goal

abbrev pub invariant-loop-comp : goal.invariant-loop-comp
invariant-loop-comp l = l.names.items ≡ l.initial.names.items ++ all_below l.front (map comp_name (take l.comp-index l.comp-items))
