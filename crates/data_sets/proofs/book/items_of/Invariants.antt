-- what the loops of `book::items_of` keep
use Rattle.std.proofs.Common.{◌≡◌, take, map}
use Rattle.data_sets.specs.Books.{seen, items_in}
use Rattle.data_sets.proofs.book.items_of.Given as goal

abbrev pub invariant-loop-entry : goal.invariant-loop-entry
invariant-loop-entry l = l.items.items ≡ items_in l.domain (map seen (take l.entry-index l.entries))
