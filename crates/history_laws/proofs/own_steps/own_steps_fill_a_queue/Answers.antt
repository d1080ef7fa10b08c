-- why `laws::own_steps_fill_a_queue` answers as its contract says
use Rattle.history_laws.proofs.QueueLaws.{open_by_steps, waits_by_steps, accepted_by_steps, asked_with_room}
use Rattle.history_laws.proofs.own_steps.own_steps_fill_a_queue.Goals as goal

pub returns-clause-opened : goal.returns-clause-opened
returns-clause-opened c = open_by_steps

pub returns-clause-waits : goal.returns-clause-waits
returns-clause-waits c = waits_by_steps

pub returns-clause-accepted : goal.returns-clause-accepted
returns-clause-accepted c = accepted_by_steps

pub returns-clause-asked : goal.returns-clause-asked
returns-clause-asked c = asked_with_room
