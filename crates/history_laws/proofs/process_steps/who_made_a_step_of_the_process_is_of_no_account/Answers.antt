-- why `laws::who_made_a_step_of_the_process_is_of_no_account` answers as its contract says
use Rattle.history_laws.proofs.WrittenLaws.{points_written, answer_written, fault_written, legal_written}
use Rattle.history_laws.proofs.process_steps.who_made_a_step_of_the_process_is_of_no_account.Goals as goal

pub returns-clause-points : goal.returns-clause-points
returns-clause-points c = points_written

pub returns-clause-answer : goal.returns-clause-answer
returns-clause-answer c = answer_written

pub returns-clause-fault : goal.returns-clause-fault
returns-clause-fault c = fault_written

pub returns-clause-legal : goal.returns-clause-legal
returns-clause-legal c = legal_written
