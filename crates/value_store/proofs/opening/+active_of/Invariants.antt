-- why `opening::active_of` ends
use Rattle.std.proofs.Common.{length}
use Rattle.value_store.proofs.opening.+active_of.Given as goal

abbrev pub decreases-active_of : goal.decreases-active_of
decreases-active_of l = length l.groups.now
