-- why `laws::members_are_those_of_the_model` answers as its contract says
use Rattle.name_trees.proofs.AllowedLaws.{members-agree}
use Rattle.name_trees.proofs.laws.members_are_those_of_the_model.Goals as goal

pub returns : goal.returns
returns e = λ text told reference are is. members-agree text told reference are is
