-- what the loops of `book::SetBook::number_referred` keep
use Rattle.std.proofs.Common.{◌≡◌, ◌<◌, ℕ, false, slice_index_or}
use Rattle.std.specs.Str.{bytes_eq}
use Rattle.data_sets.specs.Books.{reference, no_set}
use Rattle.data_sets.proofs.book.SetBook.number_referred.Given as goal

-- none before the place has the reference
abbrev pub invariant-loop-at : goal.invariant-loop-at
invariant-loop-at l = (k : ℕ) → k < l.at → bytes_eq l.reference (reference (slice_index_or l.self.sets k no_set)) ≡ false
