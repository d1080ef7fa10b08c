-- what the loops of `octets::are_odd` keep, and why they end
use Rattle.std.proofs.Common.{◌≡◌, ◌-◌, ◌≤◌, length}
use Rattle.std.specs.List.{slice_range}
use Rattle.run_record.specs.Octets.{has_odd_spaces}
use Rattle.run_record.proofs.octets.are_odd.Given as goal

abbrev pub invariant-loop-at : goal.invariant-loop-at
invariant-loop-at l = (l.at ≤ length l.text) × (l.odd ≡ has_odd_spaces (slice_range l.text 0 l.at))

abbrev pub decreases-loop-at : goal.decreases-loop-at
decreases-loop-at l = length l.text - l.at
