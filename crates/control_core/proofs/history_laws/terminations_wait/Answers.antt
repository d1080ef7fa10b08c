-- why `history_laws::terminations_wait` answers as its contract says
use Rattle.control_core.proofs.TurnLaws.{terminations_wait, running_are_open, tests_are_new}
use Rattle.control_core.proofs.history_laws.terminations_wait.Goals as goal

pub returns-clause-wait : goal.returns-clause-wait
returns-clause-wait c = terminations_wait

pub returns-clause-open : goal.returns-clause-open
returns-clause-open c = running_are_open

pub returns-clause-tests : goal.returns-clause-tests
returns-clause-tests c = tests_are_new
