-- The worked histories of controls, by computation.
use Rattle.std.proofs.Common.{refl}
use Rattle.bay_examples.specs.WorkedControls.{RefusedOpers, ActAndTermination, NegativeTermination, TestOperate, CancelledSelection, BlockedAndLost, SelectedBesideLoss, LostExecution, LostTermination, RefusedSelects}

pub refused_opers : RefusedOpers
refused_opers = (refl, refl)

pub act_and_termination : ActAndTermination
act_and_termination = (refl, refl)

pub negative_termination : NegativeTermination
negative_termination = (refl, refl)

pub test_operate : TestOperate
test_operate = (refl, refl)

pub cancelled_selection : CancelledSelection
cancelled_selection = (refl, refl)

pub blocked_and_lost : BlockedAndLost
blocked_and_lost = (refl, refl)

pub selected_beside_loss : SelectedBesideLoss
selected_beside_loss = (refl, refl)

pub lost_execution : LostExecution
lost_execution = (refl, refl)

pub lost_termination : LostTermination
lost_termination = (refl, refl)

pub refused_selects : RefusedSelects
refused_selects = (refl, refl)
