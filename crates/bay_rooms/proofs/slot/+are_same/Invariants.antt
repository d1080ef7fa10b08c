-- why `slot::are_same` ends
use Rattle.std.proofs.Common.{length}
use Rattle.bay_rooms.proofs.slot.+are_same.Given as goal

abbrev pub decreases-are_same : goal.decreases-are_same
decreases-are_same l = length l.one.now
