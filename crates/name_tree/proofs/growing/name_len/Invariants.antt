-- what the loops of `growing::name_len` keep
use Rattle.std.proofs.Common.{◌≡◌, ◌<◌, ℕ, false, get_or, ◌==◌}
use Rattle.name_tree.proofs.growing.name_len.Given as goal

abbrev pub invariant-loop-i : goal.invariant-loop-i
invariant-loop-i l = (k : ℕ) → k < l.i → (get_or l.rest k 0 == 36) ≡ false
