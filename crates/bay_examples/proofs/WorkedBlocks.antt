-- The worked histories of two blocks, by computation.
use Rattle.std.proofs.Common.{refl}
use Rattle.bay_examples.specs.WorkedBlocks.{TieOfBlocks, EarliestStep}

pub tie_of_blocks : TieOfBlocks
tie_of_blocks = (refl, refl)

pub earliest_step : EarliestStep
earliest_step = (refl, refl)
