-- why `history_laws::executions_are` answers as its contract says
use Rattle.control_core.proofs.ExecutedLaws.{executions_are, terminations_are, other_dones, tests_follow}
use Rattle.control_core.proofs.history_laws.executions_are.Goals as goal

pub returns-clause-are : goal.returns-clause-are
returns-clause-are c = executions_are

pub returns-clause-put : goal.returns-clause-put
returns-clause-put c = terminations_are

pub returns-clause-others : goal.returns-clause-others
returns-clause-others c = other_dones

pub returns-clause-tests : goal.returns-clause-tests
returns-clause-tests c = tests_follow
