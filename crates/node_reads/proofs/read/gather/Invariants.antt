-- what the loops of `read::gather` keep
use Rattle.std.proofs.Common.{◌≡◌, drop, Ok}
use Rattle.node_reads.specs.Reading.{leaf_at}
use Rattle.node_reads.proofs.ReadLaws.{both, gathered}
use Rattle.node_reads.proofs.read.gather.Given as goal

abbrev pub invariant-loop-leaf : goal.invariant-loop-leaf
invariant-loop-leaf g l = gathered (leaf_at (g.V.LeafValues.given l.values)) l.leaves ≡ both (Ok l.all.items) (gathered (leaf_at (g.V.LeafValues.given l.values)) (drop l.leaf-index l.leaves))
