-- what the loops of `runs::runs_of` keep, and why they end
use Rattle.std.proofs.Common.{◌≡◌, ◌++◌, length}
use Rattle.object_model.specs.Runs.{AreRuns, lines_in}
use Rattle.object_model.proofs.runs.runs_of.Given as goal

abbrev pub invariant-loop-rest : goal.invariant-loop-rest
invariant-loop-rest l = record {
  lines : lines_in l.runs.items ++ l.rest ≡ l.lines;
  runs : AreRuns l.runs.items;
}

abbrev pub decreases-loop-rest : goal.decreases-loop-rest
decreases-loop-rest l = length l.rest
