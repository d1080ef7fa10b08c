-- what the loops of `writing::add_controls` keep
use Rattle.std.proofs.Common.{◌≡◌, ◌++◌, take, map}
use Rattle.cfg_lines.specs.declared.line.Line.TheVariants.{Ctl}
use Rattle.cfg_writing.specs.Objects.{line_of}
use Rattle.cfg_writing.proofs.writing.add_controls.Given as goal

abbrev pub invariant-loop-control : goal.invariant-loop-control
invariant-loop-control l = map line_of l.out.items ≡ map line_of l.fn.out.items ++ map Ctl (take l.control-index l.controls)
