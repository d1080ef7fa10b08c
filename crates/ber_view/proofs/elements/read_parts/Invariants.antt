-- what the loops of `elements::read_parts` keep, and why they end
use Rattle.std.proofs.Common.{length}
use Rattle.ber_grammar.proofs.PartsLaws.{WithFront}
use Rattle.ber_view.proofs.elements.read_parts.Given as goal

abbrev pub invariant-loop-rest : goal.invariant-loop-rest
invariant-loop-rest l = WithFront l.content l.rest

abbrev pub decreases-loop-rest : goal.decreases-loop-rest
decreases-loop-rest l = length l.rest
