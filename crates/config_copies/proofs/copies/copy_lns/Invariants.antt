-- what the loops of `copies::copy_lns` keep
use Rattle.std.proofs.Common.{◌≡◌, take}
use Rattle.config_copies.proofs.copies.copy_lns.Given as goal

abbrev pub invariant-loop-ln : goal.invariant-loop-ln
invariant-loop-ln l = l.copies.items ≡ take l.ln-index l.lns
