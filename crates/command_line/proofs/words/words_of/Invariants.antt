-- what the loops of `words::words_of` keep
use Rattle.std.proofs.Common.{◌≡◌, ◌++◌}
use Rattle.command_line.proofs.words.words_of.Given as goal

abbrev pub invariant-loop-word : goal.invariant-loop-word
invariant-loop-word l = (l.words.items ≡ l.yielded) × (l.yielded ++ l.word-iterator.rest.items ≡ l.initial.word-iterator.rest.items)
