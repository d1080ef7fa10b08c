-- The worked histories of the buffer, by computation.
use Rattle.std.proofs.Common.{refl}
use Rattle.bay_examples.specs.WorkedBuffer.{GapMark, OversizedEntry, ExactCapacity, PurgeOfUnsent, PurgeOfSent, PurgingChanges}

pub gap_mark : GapMark
gap_mark = (refl, refl)

pub oversized_entry : OversizedEntry
oversized_entry = (refl, refl)

pub exact_capacity : ExactCapacity
exact_capacity = ((refl, refl), (refl, refl))

pub purge_of_unsent : PurgeOfUnsent
purge_of_unsent = (refl, refl)

pub purge_of_sent : PurgeOfSent
purge_of_sent = (refl, refl)

pub purging_changes : PurgingChanges
purging_changes = ((refl, refl), (refl, refl), (refl, refl), (refl, refl), (refl, refl))
