-- why `laws::frames_are_read_back` answers as its contract says
use Rattle.osi_stack.proofs.ReadBackLaws.{framed_taken, framed_read, framed_never}
use Rattle.osi_stack.proofs.laws.frames_are_read_back.Goals as goal

pub returns : goal.returns
returns c = record { taken = framed_taken; read = framed_read; never = framed_never }
