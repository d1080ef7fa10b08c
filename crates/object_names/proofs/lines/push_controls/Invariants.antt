-- what the loops of `lines::push_controls` keep
use Rattle.std.proofs.Common.{◌≡◌, ◌++◌, drop}
use Rattle.bay_model.specs.NamedLines.{control_lines}
use Rattle.object_names.proofs.lines.push_controls.Given as goal

abbrev pub invariant-loop-control : goal.invariant-loop-control
invariant-loop-control l = l.out.items ++ control_lines l.number l.attr (drop l.control-index l.controls) ≡ l.initial.out.items ++ control_lines 0 l.first l.controls
