-- what the loops of `merging::filled` keep
use Rattle.std.proofs.Common.{◌≡◌, ◌++◌, map}
use Rattle.std.specs.Prelude.{Some}
use Rattle.actor_scripts.proofs.merging.filled.Given as goal

abbrev pub invariant-loop-place : goal.invariant-loop-place
invariant-loop-place l = (map Some l.steps.items ≡ l.yielded) × (l.yielded ++ l.place-iterator.rest.items ≡ l.fn.places.items)
