-- why `laws::names_find_their_nodes` answers as its contract says
use Rattle.object_model.proofs.NameLaws.{found}
use Rattle.object_model.proofs.laws.names_find_their_nodes.Goals as goal

pub returns : goal.returns
returns c = λ c' n h. found c' n h
