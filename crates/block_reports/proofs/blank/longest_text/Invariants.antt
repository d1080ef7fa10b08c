-- what the loops of `blank::longest_text` keep
use Rattle.std.proofs.Common.{◌≡◌, drop, max}
use Rattle.block_reports.specs.Blanks.{longest_text_in}
use Rattle.block_reports.proofs.blank.longest_text.Given as goal

-- the greater of what was met and of what is left
abbrev pub invariant-loop-part : goal.invariant-loop-part
invariant-loop-part l = longest_text_in l.parts ≡ max l.most (longest_text_in (drop l.part-index l.parts))
