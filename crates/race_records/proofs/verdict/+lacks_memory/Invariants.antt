-- why `verdict::lacks_memory` ends
use Rattle.std.proofs.Common.{length}
use Rattle.race_records.proofs.verdict.+lacks_memory.Given as goal

abbrev pub decreases-lacks_memory : goal.decreases-lacks_memory
decreases-lacks_memory l = length l.parts.now
