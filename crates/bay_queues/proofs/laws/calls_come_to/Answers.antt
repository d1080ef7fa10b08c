-- why `laws::calls_come_to` answers as its contract says
use Rattle.bay_queues.proofs.StandLaws.{call-comes, enhanced-is}
use Rattle.bay_queues.proofs.laws.calls_come_to.Goals as goal

pub returns-clause-call : goal.returns-clause-call
returns-clause-call c = call-comes

pub returns-clause-enhanced : goal.returns-clause-enhanced
returns-clause-enhanced c = enhanced-is
