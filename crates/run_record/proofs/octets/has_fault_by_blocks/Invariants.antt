-- what the loops of `octets::has_fault_by_blocks` keep, and why they end
use Rattle.std.proofs.Common.{◌-◌, ◌<◌, length}
use Rattle.run_record.specs.Octets.{IsFaultless}
use Rattle.run_record.proofs.octets.has_fault_by_blocks.Given as goal

abbrev pub invariant-loop-at : goal.invariant-loop-at
invariant-loop-at l = (0 < l.at) × (l.at < length l.line) × IsFaultless l.line 1 l.at

abbrev pub decreases-loop-at : goal.decreases-loop-at
decreases-loop-at l = length l.line - l.at
