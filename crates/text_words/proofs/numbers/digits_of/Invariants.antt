-- what the loops of `numbers::digits_of` keep
use Rattle.text_words.proofs.DigitLaws.{Reads}
use Rattle.text_words.proofs.numbers.digits_of.Given as goal

abbrev pub invariant-loop-octet : goal.invariant-loop-octet
invariant-loop-octet l = Reads l.word l.n l.octet-index
