-- what the loops of `spelling::push_bits` keep
use Rattle.std.proofs.Common.{◌≡◌, ◌∷◌, ◌++◌, take}
use Rattle.text_words.specs.Spelled.{bits_word}
use Rattle.text_words.proofs.spelling.push_bits.Given as goal

abbrev pub invariant-loop-bit : goal.invariant-loop-bit
invariant-loop-bit l = l.out.items ≡ l.fn.out.items ++ 32 ∷ bits_word (take l.bit-index l.bits)
