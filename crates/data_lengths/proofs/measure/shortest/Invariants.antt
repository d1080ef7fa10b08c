-- what the loops of `measure::shortest` keep, and why they end
use Rattle.std.proofs.Common.{◌≡◌, ◌≤◌, ◌-◌, drop, length}
use Rattle.sv_base.specs.Data.{shortest}
use Rattle.data_lengths.proofs.measure.shortest.Given as goal

abbrev pub invariant-loop-at : goal.invariant-loop-at
invariant-loop-at l = (shortest l.octets ≡ shortest (drop l.at l.octets)) × (l.at ≤ length l.octets)

abbrev pub decreases-loop-at : goal.decreases-loop-at
decreases-loop-at l = length l.octets - l.at
