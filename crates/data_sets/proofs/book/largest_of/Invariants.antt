-- what the loops of `book::largest_of` keep
use Rattle.std.proofs.Common.{◌≡◌, map, max, drop}
use Rattle.data_sets.specs.Books.{largest_in, seen}
use Rattle.data_sets.proofs.book.largest_of.Given as goal

-- the greater of what was met and of what is left
abbrev pub invariant-loop-entry : goal.invariant-loop-entry
invariant-loop-entry l = largest_in (map seen l.entries) ≡ max l.most (largest_in (map seen (drop l.entry-index l.entries)))
