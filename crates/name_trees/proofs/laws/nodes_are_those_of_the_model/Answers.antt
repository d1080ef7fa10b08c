-- why `laws::nodes_are_those_of_the_model` answers as its contract says
use Rattle.name_trees.proofs.NodeLaws.{nodes-agree}
use Rattle.name_trees.proofs.laws.nodes_are_those_of_the_model.Goals as goal

pub returns : goal.returns
returns e = λ text told reference are is. nodes-agree text told reference are is
