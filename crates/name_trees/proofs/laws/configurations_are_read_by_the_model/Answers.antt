-- why `laws::configurations_are_read_by_the_model` answers as its contract says
use Rattle.name_trees.proofs.WholeLaws.{by-the-model}
use Rattle.name_trees.proofs.laws.configurations_are_read_by_the_model.Goals as goal

pub returns : goal.returns
returns e = λ text. by-the-model text
