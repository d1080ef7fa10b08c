-- what the loops of `opening::push_generated` keep
use Rattle.std.proofs.Common.{◌≡◌, ◌++◌, map, flat_map, take}
use Rattle.value_store.specs.Opened.{stored_control}
use Rattle.value_store.specs.Stored.{stored}
use Rattle.value_store.proofs.opening.push_generated.Given as goal

abbrev pub invariant-loop-control : goal.invariant-loop-control
invariant-loop-control l = map stored l.cells.items ≡ map stored l.initial.cells.items ++ flat_map stored_control (take l.control-index l.controls)
