-- what the loops of `content::all_bits` keep, and why they end
use Rattle.std.proofs.Common.{◌≡◌, ◌≤◌, ◌-◌, take, length}
use Rattle.mms_data.proofs.content.all_bits.Given as goal

abbrev pub invariant-loop-bit : goal.invariant-loop-bit
invariant-loop-bit l = (length l.all.items ≤ length l.view) × (l.all.items ≡ take (length l.all.items) l.view)

abbrev pub decreases-loop-bit : goal.decreases-loop-bit
decreases-loop-bit l = length l.view - length l.all.items
