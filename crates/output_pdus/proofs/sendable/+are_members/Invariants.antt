-- why `sendable::are_members` ends
use Rattle.std.proofs.Common.{length}
use Rattle.output_pdus.proofs.sendable.+are_members.Given as goal

abbrev pub decreases-are_members : goal.decreases-are_members
decreases-are_members l = length l.members.now
