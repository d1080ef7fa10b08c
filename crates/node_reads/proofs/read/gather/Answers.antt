-- why `read::gather` answers as its contract says
use Rattle.std.proofs.Common.{arith}
use Rattle.node_reads.specs.Reading.{leaf_at}
use Rattle.node_reads.proofs.ReadLaws.{gather-all}
use Rattle.node_reads.proofs.read.gather.Goals as goal

pub returns : goal.returns
returns g c = gather-all (leaf_at (g.V.LeafValues.given c.args.values.now)) c.args.leaves.now c.loop-leaf.leaf-index c.loop-leaf.all.items (omega (arith, c.loop-leaf-test.false)) c.loop-leaf.invariant
