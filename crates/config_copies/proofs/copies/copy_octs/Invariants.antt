-- what the loops of `copies::copy_octs` keep
use Rattle.std.proofs.Common.{◌≡◌, take}
use Rattle.config_copies.proofs.copies.copy_octs.Given as goal

abbrev pub invariant-loop-octs : goal.invariant-loop-octs
invariant-loop-octs l = l.copies.items ≡ take l.octs-index l.list
