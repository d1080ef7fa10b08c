-- what the loops of `values::unmark` keep
use Rattle.std.proofs.Common.{drop}
use Rattle.bay_values.specs.Marked.{AreNoted}
use Rattle.bay_values.proofs.values.unmark.Given as goal

abbrev pub invariant-loop-change : goal.invariant-loop-change
invariant-loop-change l = AreNoted (drop l.change-index l.changes) l.marks
