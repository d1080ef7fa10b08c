-- why `book::is_reference` ends
use Rattle.std.proofs.Common.{length}
use Rattle.data_sets.proofs.book.+is_reference.Given as goal

abbrev pub decreases-is_reference : goal.decreases-is_reference
decreases-is_reference l = length l.text.now
