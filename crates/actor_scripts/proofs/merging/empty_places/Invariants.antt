-- what the loops of `merging::empty_places` keep
use Rattle.std.proofs.Common.{◌≡◌, List, length}
use Rattle.actor_scripts.specs.Merging.{AreRight}
use Rattle.actor_scripts.specs.declared.made.Made.{Made}
use Rattle.actor_scripts.proofs.merging.empty_places.Given as goal

abbrev pub invariant-loop : goal.invariant-loop
invariant-loop l = (length l.places.items ≡ l.counter) × ((ms : List Made) → AreRight ms l.places.items)
