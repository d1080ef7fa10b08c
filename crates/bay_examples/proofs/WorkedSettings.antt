-- The worked histories of setting groups, by computation.
use Rattle.std.proofs.Common.{refl}
use Rattle.bay_examples.specs.WorkedSettings.{ActiveGroup, EditedGroup, ConfirmedActive, HeldEdit, LastActivation, DroppedEdit, SetByProcess}

pub active_group : ActiveGroup
active_group = (refl, refl)

pub edited_group : EditedGroup
edited_group = (refl, refl)

pub confirmed_active : ConfirmedActive
confirmed_active = (refl, refl)

pub held_edit : HeldEdit
held_edit = (refl, refl)

pub last_activation : LastActivation
last_activation = (refl, refl)

pub dropped_edit : DroppedEdit
dropped_edit = (refl, refl)

pub set_by_process : SetByProcess
set_by_process = (refl, refl)
