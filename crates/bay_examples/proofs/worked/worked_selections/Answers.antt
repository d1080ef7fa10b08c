-- why `worked::worked_selections` answers as its contract says
use Rattle.bay_examples.proofs.WorkedSelections.{selected_by_sbo, operated_many, direct_control, blocked_sbo}
use Rattle.bay_examples.proofs.worked.worked_selections.Goals as goal

pub returns-clause-selected_by_sbo : goal.returns-clause-selected_by_sbo
returns-clause-selected_by_sbo c = selected_by_sbo

pub returns-clause-operated_many : goal.returns-clause-operated_many
returns-clause-operated_many c = operated_many

pub returns-clause-direct_control : goal.returns-clause-direct_control
returns-clause-direct_control c = direct_control

pub returns-clause-blocked_sbo : goal.returns-clause-blocked_sbo
returns-clause-blocked_sbo c = blocked_sbo
