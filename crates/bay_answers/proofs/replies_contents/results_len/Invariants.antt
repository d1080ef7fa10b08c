-- what the loops of `replies_contents::results_len` keep
use Rattle.std.proofs.Common.{◌≡◌, length, take, min}
use Rattle.bay_answers.specs.RepliesContents.{results_octets}
use Rattle.bay_answers.proofs.replies_contents.results_len.Given as goal

abbrev pub invariant-loop-one : goal.invariant-loop-one
invariant-loop-one l = l.sum ≡ min (length (results_octets (take l.one-index l.results))) 4294967295
