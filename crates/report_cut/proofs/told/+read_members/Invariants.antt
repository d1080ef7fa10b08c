-- why `told::read_members` ends
use Rattle.std.proofs.Common.{length}
use Rattle.report_cut.proofs.told.+read_members.Given as goal

abbrev pub decreases-read_members : goal.decreases-read_members
decreases-read_members l = length l.bits.now
