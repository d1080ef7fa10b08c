-- what the loops of `lines::push_blocks` keep
use Rattle.std.proofs.Common.{◌≡◌, ◌++◌, drop}
use Rattle.bay_model.specs.NamedLines.{block_lines}
use Rattle.object_names.proofs.lines.push_blocks.Given as goal

abbrev pub invariant-loop-block : goal.invariant-loop-block
invariant-loop-block l = l.out.items ++ block_lines l.number (drop l.block-index l.blocks) ≡ l.initial.out.items ++ block_lines 0 l.blocks
