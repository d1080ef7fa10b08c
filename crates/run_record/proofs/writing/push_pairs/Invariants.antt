-- what the loops of `writing::push_pairs` keep
use Rattle.std.proofs.Common.{◌≡◌, ◌++◌, take}
use Rattle.std.specs.List.{flat_map}
use Rattle.text_words.specs.Spelled.{spaced}
use Rattle.run_record.specs.Spelled.{pair_words}
use Rattle.run_record.proofs.writing.push_pairs.Given as goal

abbrev pub invariant-loop-pair : goal.invariant-loop-pair
invariant-loop-pair l = l.out.items ≡ l.fn.out.items ++ flat_map spaced (flat_map pair_words (take l.pair-index l.pairs))
