-- what the loops of `copies::copy_values` keep
use Rattle.std.proofs.Common.{◌≡◌, take}
use Rattle.config_copies.proofs.copies.copy_values.Given as goal

abbrev pub invariant-loop-value : goal.invariant-loop-value
invariant-loop-value l = l.copies.items ≡ take l.value-index l.values
