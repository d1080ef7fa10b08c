-- why `worked::worked_reads` answers as its contract says
use Rattle.bay_examples.proofs.WorkedReads.{reads_of_newest_entry, counted_changes, read_of_structure, refused_access, long_reads}
use Rattle.bay_examples.proofs.worked.worked_reads.Goals as goal

pub returns-clause-reads_of_newest_entry : goal.returns-clause-reads_of_newest_entry
returns-clause-reads_of_newest_entry c = reads_of_newest_entry

pub returns-clause-counted_changes : goal.returns-clause-counted_changes
returns-clause-counted_changes c = counted_changes

pub returns-clause-read_of_structure : goal.returns-clause-read_of_structure
returns-clause-read_of_structure c = read_of_structure

pub returns-clause-refused_access : goal.returns-clause-refused_access
returns-clause-refused_access c = refused_access

pub returns-clause-long_reads : goal.returns-clause-long_reads
returns-clause-long_reads c = long_reads
