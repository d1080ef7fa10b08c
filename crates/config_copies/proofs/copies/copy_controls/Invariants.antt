-- what the loops of `copies::copy_controls` keep
use Rattle.std.proofs.Common.{◌≡◌, take}
use Rattle.config_copies.proofs.copies.copy_controls.Given as goal

abbrev pub invariant-loop-control : goal.invariant-loop-control
invariant-loop-control l = l.copies.items ≡ take l.control-index l.controls
