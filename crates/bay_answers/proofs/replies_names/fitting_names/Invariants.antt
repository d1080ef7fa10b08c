-- what the loops of `replies_names::fitting_names` keep, and why they end
use Rattle.std.proofs.Common.{◌≡◌, ◌≤◌, ◌-◌, take, length}
use Rattle.bay_answers.specs.RepliesContents.{identifiers}
use Rattle.bay_answers.proofs.RepliesNamesLaws.{IsReached}
use Rattle.bay_answers.proofs.replies_names.fitting_names.Given as goal

abbrev pub invariant-loop-count : goal.invariant-loop-count
invariant-loop-count l = record {
  most : l.count ≤ length l.names;
  small : l.sum ≤ l.size;
  sum : l.sum ≡ length (identifiers (take l.count l.names));
  reached : IsReached l.size l.invoke l.count l.names;
}

abbrev pub decreases-loop-count : goal.decreases-loop-count
decreases-loop-count l = length l.names - l.count
