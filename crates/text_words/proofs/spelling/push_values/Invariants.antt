-- what the loops of `spelling::push_values` keep
use Rattle.std.proofs.Common.{◌≡◌, ◌++◌, take}
use Rattle.std.specs.List.{flat_map}
use Rattle.text_words.specs.Spelled.{value_word, spaced}
use Rattle.text_words.proofs.spelling.push_values.Given as goal

abbrev pub invariant-loop-value : goal.invariant-loop-value
invariant-loop-value l = l.out.items ≡ l.fn.out.items ++ flat_map (λ v. spaced (value_word v)) (take l.value-index l.values)
