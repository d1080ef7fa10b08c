-- why `sendable::ascend` ends
use Rattle.std.proofs.Common.{length}
use Rattle.output_pdus.proofs.sendable.+ascend.Given as goal

abbrev pub decreases-ascend : goal.decreases-ascend
decreases-ascend l = length l.members.now
