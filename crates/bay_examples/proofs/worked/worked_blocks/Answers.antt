-- why `worked::worked_blocks` answers as its contract says
use Rattle.bay_examples.proofs.WorkedBlocks.{tie_of_blocks, earliest_step}
use Rattle.bay_examples.proofs.worked.worked_blocks.Goals as goal

pub returns-clause-tie_of_blocks : goal.returns-clause-tie_of_blocks
returns-clause-tie_of_blocks c = tie_of_blocks

pub returns-clause-earliest_step : goal.returns-clause-earliest_step
returns-clause-earliest_step c = earliest_step
