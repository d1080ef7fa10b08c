-- why `laws::sets_are_those_of_the_model` answers as its contract says
use Rattle.name_trees.proofs.SetLaws.{sets-agree}
use Rattle.name_trees.proofs.laws.sets_are_those_of_the_model.Goals as goal

pub returns : goal.returns
returns e = λ told reference. sets-agree told reference
