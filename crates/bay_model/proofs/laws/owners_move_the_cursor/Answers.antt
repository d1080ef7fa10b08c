-- why `laws::owners_move_the_cursor` answers as its contract says
use Rattle.bay_model.proofs.ReservationLaws.{moved_by_owner, enablers_are_open}
use Rattle.bay_model.proofs.laws.owners_move_the_cursor.Goals as goal

pub returns-clause-moved : goal.returns-clause-moved
returns-clause-moved c = moved_by_owner

pub returns-clause-enabler : goal.returns-clause-enabler
returns-clause-enabler c = enablers_are_open
