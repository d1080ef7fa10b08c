-- what the loops of `connection::take_piece` keep, and why they end
use Rattle.std.proofs.Common.{length}
use Rattle.osi_stack.specs.Going.{Went}
use Rattle.osi_stack.proofs.connection.take_piece.Given as goal

abbrev pub invariant-loop-rest : goal.invariant-loop-rest
invariant-loop-rest l = Went l.fn.link l.link l.fn.piece l.rest l.fn.events l.events

abbrev pub decreases-loop-rest : goal.decreases-loop-rest
decreases-loop-rest l = length l.rest
