-- why `connection::take_piece` answers as its contract says
use Rattle.osi_stack.proofs.ConnectionLaws.{went_then}
use Rattle.osi_stack.proofs.connection.take_piece.Goals as goal

pub loop-rest-preserved : goal.loop-rest-preserved
loop-rest-preserved c = went_then c.args.link.now c.loop-rest.link c.take_packet.new.link c.args.piece.now _ _ _ _ _ c.loop-rest.invariant c.in-Ok.ensures.goes
