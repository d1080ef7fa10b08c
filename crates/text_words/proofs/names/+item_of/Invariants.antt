-- why `names::item_of` ends
use Rattle.std.proofs.Common.{length}
use Rattle.text_words.proofs.names.+item_of.Given as goal

abbrev pub decreases-item_of : goal.decreases-item_of
decreases-item_of l = length l.reference.now
