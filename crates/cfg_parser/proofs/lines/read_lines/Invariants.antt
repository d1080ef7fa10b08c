-- what the loops of `lines::read_lines` keep, and why they end
use Rattle.std.proofs.Common.{◌≡◌, [], length}
use Rattle.cfg_parser.specs.Text.{pieces, told_at}
use Rattle.cfg_parser.proofs.lines.read_lines.Given as goal

abbrev pub invariant-loop-line : goal.invariant-loop-line
invariant-loop-line l = told_at [] (pieces l.text) ≡ told_at l.reading (pieces l.rest)

abbrev pub decreases-loop-line : goal.decreases-loop-line
decreases-loop-line l = length l.rest
