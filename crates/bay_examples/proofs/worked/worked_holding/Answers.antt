-- why `worked::worked_holding` answers as its contract says
use Rattle.bay_examples.proofs.WorkedHolding.{holding, loss_of_another, refused_components, refusals_in_order}
use Rattle.bay_examples.proofs.worked.worked_holding.Goals as goal

pub returns-clause-holding : goal.returns-clause-holding
returns-clause-holding c = holding

pub returns-clause-loss_of_another : goal.returns-clause-loss_of_another
returns-clause-loss_of_another c = loss_of_another

pub returns-clause-refused_components : goal.returns-clause-refused_components
returns-clause-refused_components c = refused_components

pub returns-clause-refusals_in_order : goal.returns-clause-refusals_in_order
returns-clause-refusals_in_order c = refusals_in_order
