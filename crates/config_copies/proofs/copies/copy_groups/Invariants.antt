-- what the loops of `copies::copy_groups` keep
use Rattle.std.proofs.Common.{◌≡◌, take}
use Rattle.config_copies.proofs.copies.copy_groups.Given as goal

abbrev pub invariant-loop-group : goal.invariant-loop-group
invariant-loop-group l = l.copies.items ≡ take l.group-index l.groups
