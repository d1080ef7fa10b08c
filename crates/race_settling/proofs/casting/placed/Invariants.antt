-- what the loops of `casting::placed` keep
use Rattle.std.proofs.Common.{◌≡◌, ◌++◌, map}
use Rattle.std.specs.Prelude.{Some}
use Rattle.race_settling.proofs.casting.placed.Given as goal

abbrev pub invariant-loop-gate : goal.invariant-loop-gate
invariant-loop-gate g l = (l.places.items ≡ map Some l.yielded) × (l.yielded ++ l.gate-iterator.rest.items ≡ l.fn.gates.items)
