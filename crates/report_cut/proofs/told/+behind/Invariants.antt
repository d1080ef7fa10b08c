-- why `told::behind` ends
use Rattle.std.proofs.Common.{length}
use Rattle.report_cut.proofs.told.+behind.Given as goal

abbrev pub decreases-behind : goal.decreases-behind
decreases-behind l = length l.bits.now
