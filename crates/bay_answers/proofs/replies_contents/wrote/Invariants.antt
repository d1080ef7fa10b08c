-- what the loops of `replies_contents::wrote` keep
use Rattle.std.proofs.Common.{◌≡◌, ◌++◌, drop}
use Rattle.bay_answers.specs.RepliesContents.{written_content}
use Rattle.bay_answers.proofs.replies_contents.wrote.Given as goal

-- what is written and what is left to write make what is wanted
abbrev pub invariant-loop-code : goal.invariant-loop-code
invariant-loop-code l = l.content.items ++ written_content (drop l.code-index l.codes) ≡ written_content l.codes
