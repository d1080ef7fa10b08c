-- what the loops of `words::put_parts` keep
use Rattle.std.proofs.Common.{◌≡◌, ◌≤◌, ◌<◌, ◌++◌, ◌==◌, ℕ, false, drop, get_or, length}
use Rattle.std.specs.List.{slice_split}
use Rattle.text_words.specs.Words.{texts}
use Rattle.text_words.proofs.words.put_parts.Given as goal

abbrev pub invariant-loop-i : goal.invariant-loop-i
invariant-loop-i l = record {
  within : l.start ≤ l.i;
  none : (k : ℕ) → l.start ≤ k → k < l.i → (get_or l.octets k 0 == l.separator) ≡ false;
  parts : texts l.parts.items ++ slice_split (λ b. b == l.separator) (drop l.start l.octets) ≡ slice_split (λ b. b == l.separator) l.octets;
}
