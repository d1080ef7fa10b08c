-- what the loops of `book::SetBook::open` keep
use Rattle.std.proofs.Common.{◌≡◌, take, map}
use Rattle.data_sets.specs.Books.{seen, booked}
use Rattle.data_sets.proofs.book.SetBook.open.Given as goal

abbrev pub invariant-loop-row : goal.invariant-loop-row
invariant-loop-row l = map seen l.entries.items ≡ map booked (take l.row-index l.row-items)
