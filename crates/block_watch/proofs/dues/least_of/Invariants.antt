-- what the loops of `dues::least_of` keep
use Rattle.std.proofs.Common.{take}
use Rattle.block_watch.specs.Dues.{AreFrom}
use Rattle.block_watch.proofs.dues.least_of.Given as goal

abbrev pub invariant-loop-due : goal.invariant-loop-due
invariant-loop-due l = AreFrom l.least (take l.due-index l.each)
