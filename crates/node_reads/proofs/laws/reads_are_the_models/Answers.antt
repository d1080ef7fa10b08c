-- why `laws::reads_are_the_models` answers as its contract says
use Rattle.node_reads.proofs.ReadLaws.{same-tree}
use Rattle.node_reads.proofs.laws.reads_are_the_models.Goals as goal

pub returns : goal.returns
returns c = λ c' past t. same-tree c' past t
