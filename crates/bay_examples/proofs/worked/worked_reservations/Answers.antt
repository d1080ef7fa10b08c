-- why `worked::worked_reservations` answers as its contract says
use Rattle.bay_examples.proofs.WorkedReservations.{runs_out, stopped, shared, owners_read, clamped_loss}
use Rattle.bay_examples.proofs.worked.worked_reservations.Goals as goal

pub returns-clause-runs_out : goal.returns-clause-runs_out
returns-clause-runs_out c = runs_out

pub returns-clause-stopped : goal.returns-clause-stopped
returns-clause-stopped c = stopped

pub returns-clause-shared : goal.returns-clause-shared
returns-clause-shared c = shared

pub returns-clause-owners_read : goal.returns-clause-owners_read
returns-clause-owners_read c = owners_read

pub returns-clause-clamped_loss : goal.returns-clause-clamped_loss
returns-clause-clamped_loss c = clamped_loss
