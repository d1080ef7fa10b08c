-- why `connection::Connection::called` answers as its contract says
use Rattle.std.proofs.Common.{false, refl}
use Rattle.osi_stack.specs.declared.phase.Phase.TheVariants.{Idle}
use Rattle.osi_stack.proofs.StandingLaws.{nothing_stands}
use Rattle.osi_stack.proofs.connection.Connection.called.Goals as goal

pub returns : goal.returns
returns c = (refl, nothing_stands c.new.result false Idle c.new.ensures refl)
