-- The worked histories of selections, by computation.
use Rattle.std.proofs.Common.{refl}
use Rattle.bay_examples.specs.WorkedSelections.{SelectedBySBO, OperatedMany, DirectControl, BlockedSBO}

pub selected_by_sbo : SelectedBySBO
selected_by_sbo = (refl, refl)

pub operated_many : OperatedMany
operated_many = (refl, refl)

pub direct_control : DirectControl
direct_control = ((refl, refl), (refl, refl))

pub blocked_sbo : BlockedSBO
blocked_sbo = (refl, refl)
