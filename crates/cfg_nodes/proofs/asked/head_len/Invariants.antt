-- what the loops of `asked::head_len` keep
use Rattle.std.proofs.Common.{◌≡◌, ◌<◌, ℕ, false, get_or, ◌==◌}
use Rattle.cfg_nodes.proofs.asked.head_len.Given as goal

abbrev pub invariant-loop-i : goal.invariant-loop-i
invariant-loop-i l = (k : ℕ) → k < l.i → (get_or l.reference k 0 == 36) ≡ false
