-- why `worked::worked_controls` answers as its contract says
use Rattle.bay_examples.proofs.WorkedControls.{refused_opers, act_and_termination, negative_termination, test_operate, cancelled_selection, blocked_and_lost, selected_beside_loss, lost_execution, lost_termination, refused_selects}
use Rattle.bay_examples.proofs.worked.worked_controls.Goals as goal

pub returns-clause-refused_opers : goal.returns-clause-refused_opers
returns-clause-refused_opers c = refused_opers

pub returns-clause-act_and_termination : goal.returns-clause-act_and_termination
returns-clause-act_and_termination c = act_and_termination

pub returns-clause-negative_termination : goal.returns-clause-negative_termination
returns-clause-negative_termination c = negative_termination

pub returns-clause-test_operate : goal.returns-clause-test_operate
returns-clause-test_operate c = test_operate

pub returns-clause-cancelled_selection : goal.returns-clause-cancelled_selection
returns-clause-cancelled_selection c = cancelled_selection

pub returns-clause-blocked_and_lost : goal.returns-clause-blocked_and_lost
returns-clause-blocked_and_lost c = blocked_and_lost

pub returns-clause-selected_beside_loss : goal.returns-clause-selected_beside_loss
returns-clause-selected_beside_loss c = selected_beside_loss

pub returns-clause-lost_execution : goal.returns-clause-lost_execution
returns-clause-lost_execution c = lost_execution

pub returns-clause-lost_termination : goal.returns-clause-lost_termination
returns-clause-lost_termination c = lost_termination

pub returns-clause-refused_selects : goal.returns-clause-refused_selects
returns-clause-refused_selects c = refused_selects
