-- why `laws::what_waits_was_put_and_not_given` answers as its contract says
use Rattle.history_laws.proofs.RestLaws.{waits_are_the_rest, given_are_few, takes_are_in_order}
use Rattle.history_laws.proofs.ShortLaws.{queues_are_short}
use Rattle.history_laws.proofs.waiting.what_waits_was_put_and_not_given.Goals as goal

pub returns-clause-waits : goal.returns-clause-waits
returns-clause-waits c = waits_are_the_rest

pub returns-clause-few : goal.returns-clause-few
returns-clause-few c = given_are_few

pub returns-clause-taken : goal.returns-clause-taken
returns-clause-taken c = takes_are_in_order

pub returns-clause-full : goal.returns-clause-full
returns-clause-full c = queues_are_short
