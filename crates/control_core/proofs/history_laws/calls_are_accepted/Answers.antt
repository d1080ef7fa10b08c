-- why `history_laws::calls_are_accepted` answers as its contract says
use Rattle.control_core.proofs.CallLaws.{calls_are_accepted, calls_are_askers, steps_call_nothing}
use Rattle.control_core.proofs.history_laws.calls_are_accepted.Goals as goal

pub returns-clause-accepted : goal.returns-clause-accepted
returns-clause-accepted c = calls_are_accepted

pub returns-clause-asker : goal.returns-clause-asker
returns-clause-asker c = calls_are_askers

pub returns-clause-alone : goal.returns-clause-alone
returns-clause-alone c = steps_call_nothing
