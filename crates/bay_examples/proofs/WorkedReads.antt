-- The worked histories of reads, by computation.
use Rattle.std.proofs.Common.{refl}
use Rattle.bay_examples.specs.WorkedReads.{ReadsOfNewestEntry, CountedChanges, ReadOfStructure, RefusedAccess, LongReads}

pub reads_of_newest_entry : ReadsOfNewestEntry
reads_of_newest_entry = (refl, refl)

pub counted_changes : CountedChanges
counted_changes = ((refl, refl), (refl, refl))

pub read_of_structure : ReadOfStructure
read_of_structure = (refl, refl)

pub refused_access : RefusedAccess
refused_access = (refl, refl)

pub long_reads : LongReads
long_reads = ((refl, refl), (refl, refl))
