-- what the loops of `writing::add_sets` keep
use Rattle.std.proofs.Common.{◌≡◌, ◌++◌, take, map}
use Rattle.cfg_lines.specs.declared.line.Line.TheVariants.{Set}
use Rattle.cfg_writing.specs.Objects.{line_of}
use Rattle.cfg_writing.proofs.writing.add_sets.Given as goal

abbrev pub invariant-loop-set : goal.invariant-loop-set
invariant-loop-set l = map line_of l.out.items ≡ map line_of l.fn.out.items ++ map Set (take l.set-index l.sets)
