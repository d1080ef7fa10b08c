-- why `replies_laws::names_are_as_many_as_fit` answers as its contract says
use Rattle.bay_answers.proofs.RepliesNamesLaws.{as_many}
use Rattle.bay_answers.proofs.replies_laws.names_are_as_many_as_fit.Goals as goal

pub returns : goal.returns
returns c = as_many
