-- The worked histories of reports, by computation.
use Rattle.std.proofs.Common.{refl}
use Rattle.bay_examples.specs.WorkedReports.{OneValue, UpdateFlag, TriggerBits, IntegrityPeriod, Interrogation, MomentBelow}

pub one_value : OneValue
one_value = (refl, refl)

pub update_flag : UpdateFlag
update_flag = (refl, refl)

pub trigger_bits : TriggerBits
trigger_bits = ((refl, refl), (refl, refl))

pub integrity_period : IntegrityPeriod
integrity_period = (refl, refl)

pub interrogation : Interrogation
interrogation = (refl, refl)

pub moment_below : MomentBelow
moment_below = (refl, refl)
