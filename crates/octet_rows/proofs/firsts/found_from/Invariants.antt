-- what the loops of `firsts::found_from` keep, and why they end
use Rattle.std.proofs.Common.{◌≡◌, ◌≤◌, length}
use Rattle.octet_rows.specs.Chains.{walk}
use Rattle.octet_rows.proofs.firsts.found_from.Given as goal

abbrev pub invariant-loop-at : goal.invariant-loop-at
invariant-loop-at l = record {
  within : l.at ≤ length l.entries;
  found : walk l.at l.entries l.at l.number ≡ walk l.fn.start l.entries l.fn.start l.number;
}

abbrev pub decreases-loop-at : goal.decreases-loop-at
decreases-loop-at l = l.at
