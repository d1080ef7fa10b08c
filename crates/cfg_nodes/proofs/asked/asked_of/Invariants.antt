-- what the loops of `asked::asked_of` keep
use Rattle.std.proofs.Common.{◌≡◌, take, reverse}
use Rattle.cfg_nodes.specs.Asked.{asked}
use Rattle.cfg_nodes.proofs.asked.asked_of.Given as goal

abbrev pub invariant-loop-line : goal.invariant-loop-line
invariant-loop-line l = l.refs ≡ asked (reverse (take l.line-index l.lines))
