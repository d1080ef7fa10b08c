-- what the loops of `sizes::count_within` keep, and why they end
use Rattle.std.proofs.Common.{◌≡◌, ◌≤◌, ◌-◌, ◌++◌, length, take, drop}
use Rattle.bay_model.specs.Sizes.{within}
use Rattle.bay_replies.proofs.sizes.count_within.Given as goal

abbrev pub invariant-loop-count : goal.invariant-loop-count
invariant-loop-count l = record {
  count : l.count ≤ length l.names;
  held : take l.count l.names ++ within l.left (drop l.count l.names) ≡ within l.size l.names;
}

abbrev pub decreases-loop-count : goal.decreases-loop-count
decreases-loop-count l = length l.names - l.count
