-- why `laws::terminations_come` answers as its contract says
use Rattle.bay_queues.proofs.StandLaws.{done-comes, reply-comes}
use Rattle.bay_queues.proofs.laws.terminations_come.Goals as goal

pub returns-clause-done : goal.returns-clause-done
returns-clause-done c = done-comes

pub returns-clause-reply : goal.returns-clause-reply
returns-clause-reply c = reply-comes
