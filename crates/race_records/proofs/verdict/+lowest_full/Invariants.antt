-- why `verdict::lowest_full` ends
use Rattle.std.proofs.Common.{length}
use Rattle.race_records.proofs.verdict.+lowest_full.Given as goal

abbrev pub decreases-lowest_full : goal.decreases-lowest_full
decreases-lowest_full l = length l.parts.now
