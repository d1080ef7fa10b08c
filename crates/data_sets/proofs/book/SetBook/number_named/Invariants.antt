-- what the loops of `book::SetBook::number_named` keep
use Rattle.std.proofs.Common.{◌≡◌, ◌<◌, ℕ, false, slice_index_or}
use Rattle.data_sets.specs.Books.{is_name, no_set}
use Rattle.data_sets.proofs.book.SetBook.number_named.Given as goal

-- none before the place has the name
abbrev pub invariant-loop-at : goal.invariant-loop-at
invariant-loop-at l = (k : ℕ) → k < l.at → is_name l.name (slice_index_or l.self.sets k no_set).name ≡ false
