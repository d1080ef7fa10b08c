-- The worked histories of holding, by computation.
use Rattle.std.proofs.Common.{refl}
use Rattle.bay_examples.specs.WorkedHolding.{Holding, LossOfAnother, RefusedComponents, RefusalsInOrder}

pub holding : Holding
holding = (refl, refl)

pub loss_of_another : LossOfAnother
loss_of_another = (refl, refl)

pub refused_components : RefusedComponents
refused_components = (refl, refl)

pub refusals_in_order : RefusalsInOrder
refusals_in_order = (refl, refl)
