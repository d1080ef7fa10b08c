-- what the loops of `copies::copy_targets` keep
use Rattle.std.proofs.Common.{◌≡◌, take}
use Rattle.bay_replies.proofs.copies.copy_targets.Given as goal

abbrev pub invariant-loop-target : goal.invariant-loop-target
invariant-loop-target l = l.copies.items ≡ take l.target-index l.targets
