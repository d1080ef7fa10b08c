-- The worked histories of reservations, by computation.
use Rattle.std.proofs.Common.{refl}
use Rattle.bay_examples.specs.WorkedReservations.{RunsOut, Stopped, Shared, OwnersRead, ClampedLoss}

pub runs_out : RunsOut
runs_out = (refl, refl)

pub stopped : Stopped
stopped = (refl, refl)

pub shared : Shared
shared = (refl, refl)

pub owners_read : OwnersRead
owners_read = (refl, refl, refl, refl, refl)

pub clamped_loss : ClampedLoss
clamped_loss = (refl, refl)
