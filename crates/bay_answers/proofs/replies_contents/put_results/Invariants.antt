-- what the loops of `replies_contents::put_results` keep
use Rattle.std.proofs.Common.{◌≡◌, ◌++◌, drop}
use Rattle.bay_answers.specs.RepliesContents.{results_octets}
use Rattle.bay_answers.proofs.replies_contents.put_results.Given as goal

-- what is written and what is left to write make what is wanted
abbrev pub invariant-loop-one : goal.invariant-loop-one
invariant-loop-one l = l.out.items ++ results_octets (drop l.one-index l.results) ≡ l.fn.out.items ++ results_octets l.results
