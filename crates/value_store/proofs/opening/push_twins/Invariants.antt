-- what the loops of `opening::push_twins` keep
use Rattle.std.proofs.Common.{◌≡◌, ◌++◌, map, take}
use Rattle.std.specs.List.{filter}
use Rattle.bay_model.specs.NamedLines.{is_setting}
use Rattle.value_store.specs.Opened.{stored_twin}
use Rattle.value_store.specs.Stored.{stored}
use Rattle.value_store.proofs.opening.push_twins.Given as goal

abbrev pub invariant-loop-attr : goal.invariant-loop-attr
invariant-loop-attr l = map stored l.cells.items ≡ map stored l.initial.cells.items ++ map stored_twin (filter is_setting (take l.attr-index l.attrs))
