-- what the loops of `opening::push_lines` keep
use Rattle.std.proofs.Common.{◌≡◌, ◌++◌, map, take}
use Rattle.value_store.specs.Opened.{stored_line, place_in, is_written}
use Rattle.value_store.specs.Stored.{stored}
use Rattle.value_store.proofs.opening.push_lines.Given as goal

abbrev pub invariant-loop-attr : goal.invariant-loop-attr
invariant-loop-attr l = map stored l.cells.items ≡ map stored l.initial.cells.items ++ map (λ a. stored_line a (place_in l.config a) (is_written a)) (take l.attr-index l.attrs)
