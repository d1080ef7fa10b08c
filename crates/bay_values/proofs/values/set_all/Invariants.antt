-- what the loops of `values::set_all` keep
use Rattle.std.proofs.Common.{◌≤◌, drop, vec_capacity}
use Rattle.bay_values.specs.Marked.{IsDone}
use Rattle.bay_values.proofs.values.set_all.Given as goal

abbrev pub invariant-loop-i : goal.invariant-loop-i
invariant-loop-i l = record {
  done : IsDone l.model l.initial.store (drop l.i l.settings) l.store l.marks l.changes.items;
  room : vec_capacity l.initial.changes ≤ vec_capacity l.changes;
}
