-- why `worked::worked_requests` answers as its contract says
use Rattle.bay_examples.proofs.WorkedRequests.{replies_in_order, enabled_by_request, defined_set, names_and_deletions, names_of_size, waiting_replies_full, terminations_not_counted, refused_steps}
use Rattle.bay_examples.proofs.worked.worked_requests.Goals as goal

pub returns-clause-replies_in_order : goal.returns-clause-replies_in_order
returns-clause-replies_in_order c = replies_in_order

pub returns-clause-enabled_by_request : goal.returns-clause-enabled_by_request
returns-clause-enabled_by_request c = enabled_by_request

pub returns-clause-defined_set : goal.returns-clause-defined_set
returns-clause-defined_set c = defined_set

pub returns-clause-names_and_deletions : goal.returns-clause-names_and_deletions
returns-clause-names_and_deletions c = names_and_deletions

pub returns-clause-names_of_size : goal.returns-clause-names_of_size
returns-clause-names_of_size c = names_of_size

pub returns-clause-waiting_replies_full : goal.returns-clause-waiting_replies_full
returns-clause-waiting_replies_full c = waiting_replies_full

pub returns-clause-terminations_not_counted : goal.returns-clause-terminations_not_counted
returns-clause-terminations_not_counted c = terminations_not_counted

pub returns-clause-refused_steps : goal.returns-clause-refused_steps
returns-clause-refused_steps c = refused_steps
