-- what the loops of `replies_names::add_identifiers` keep
use Rattle.std.proofs.Common.{◌≡◌, ◌++◌, drop}
use Rattle.bay_answers.specs.RepliesContents.{identifiers}
use Rattle.bay_answers.proofs.replies_names.add_identifiers.Given as goal

-- what is written and what is left to write make what is wanted
abbrev pub invariant-loop-name : goal.invariant-loop-name
invariant-loop-name l = l.out.items ++ identifiers (drop l.name-index l.names) ≡ l.fn.out.items ++ identifiers l.names
