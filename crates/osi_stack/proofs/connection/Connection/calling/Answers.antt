-- why `connection::Connection::calling` answers as its contract says
use Rattle.std.proofs.Common.{true, refl}
use Rattle.osi_stack.specs.declared.phase.Phase.TheVariants.{Calling}
use Rattle.osi_stack.proofs.StandingLaws.{nothing_stands}
use Rattle.osi_stack.proofs.connection.Connection.calling.Goals as goal

pub returns : goal.returns
returns c = (refl, nothing_stands c.dialled.result true (Calling c.args.size) c.dialled.ensures refl)
