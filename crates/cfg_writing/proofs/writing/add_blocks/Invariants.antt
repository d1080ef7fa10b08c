-- what the loops of `writing::add_blocks` keep
use Rattle.std.proofs.Common.{◌≡◌, ◌++◌, take, map}
use Rattle.cfg_lines.specs.declared.line.Line.TheVariants.{Brcb}
use Rattle.cfg_writing.specs.Objects.{line_of}
use Rattle.cfg_writing.proofs.writing.add_blocks.Given as goal

abbrev pub invariant-loop-block : goal.invariant-loop-block
invariant-loop-block l = map line_of l.out.items ≡ map line_of l.fn.out.items ++ map Brcb (take l.block-index l.blocks)
