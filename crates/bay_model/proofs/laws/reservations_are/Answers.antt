-- why `laws::reservations_are` answers as its contract says
use Rattle.bay_model.proofs.ReservationsAreLaws.{reservations_are}
use Rattle.bay_model.proofs.laws.reservations_are.Goals as goal

pub returns : goal.returns
returns c = record { are = reservations_are }
