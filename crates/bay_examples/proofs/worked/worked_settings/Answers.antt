-- why `worked::worked_settings` answers as its contract says
use Rattle.bay_examples.proofs.WorkedSettings.{active_group, edited_group, confirmed_active, held_edit, last_activation, dropped_edit, set_by_process}
use Rattle.bay_examples.proofs.worked.worked_settings.Goals as goal

pub returns-clause-active_group : goal.returns-clause-active_group
returns-clause-active_group c = active_group

pub returns-clause-edited_group : goal.returns-clause-edited_group
returns-clause-edited_group c = edited_group

pub returns-clause-confirmed_active : goal.returns-clause-confirmed_active
returns-clause-confirmed_active c = confirmed_active

pub returns-clause-held_edit : goal.returns-clause-held_edit
returns-clause-held_edit c = held_edit

pub returns-clause-last_activation : goal.returns-clause-last_activation
returns-clause-last_activation c = last_activation

pub returns-clause-dropped_edit : goal.returns-clause-dropped_edit
returns-clause-dropped_edit c = dropped_edit

pub returns-clause-set_by_process : goal.returns-clause-set_by_process
returns-clause-set_by_process c = set_by_process
