-- what the loops of `values::listed` keep
use Rattle.std.proofs.Common.{◌≡◌, take}
use Rattle.std.specs.Prelude.{Some}
use Rattle.text_words.specs.Words.{texts}
use Rattle.text_words.specs.Values.{values_at}
use Rattle.text_words.proofs.values.listed.Given as goal

abbrev pub invariant-loop-word : goal.invariant-loop-word
invariant-loop-word l = values_at l.kind (texts (take l.word-index l.words)) ≡ Some l.values.items
