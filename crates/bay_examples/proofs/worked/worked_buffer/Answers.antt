-- why `worked::worked_buffer` answers as its contract says
use Rattle.bay_examples.proofs.WorkedBuffer.{gap_mark, oversized_entry, exact_capacity, purge_of_unsent, purge_of_sent, purging_changes}
use Rattle.bay_examples.proofs.worked.worked_buffer.Goals as goal

pub returns-clause-gap_mark : goal.returns-clause-gap_mark
returns-clause-gap_mark c = gap_mark

pub returns-clause-oversized_entry : goal.returns-clause-oversized_entry
returns-clause-oversized_entry c = oversized_entry

pub returns-clause-exact_capacity : goal.returns-clause-exact_capacity
returns-clause-exact_capacity c = exact_capacity

pub returns-clause-purge_of_unsent : goal.returns-clause-purge_of_unsent
returns-clause-purge_of_unsent c = purge_of_unsent

pub returns-clause-purge_of_sent : goal.returns-clause-purge_of_sent
returns-clause-purge_of_sent c = purge_of_sent

pub returns-clause-purging_changes : goal.returns-clause-purging_changes
returns-clause-purging_changes c = purging_changes
