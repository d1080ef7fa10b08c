-- why `laws::reads_are_of_leaves` answers as its contract says
use Rattle.node_reads.proofs.ReadLaws.{of-leaves}
use Rattle.node_reads.proofs.laws.reads_are_of_leaves.Goals as goal

pub returns : goal.returns
returns c = λ f t k h. of-leaves f t k h
