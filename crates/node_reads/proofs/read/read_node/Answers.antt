-- why `read::read_node` answers as its contract says
use Rattle.std.proofs.Common.{◌≡◌, IfOk, subst}
use Rattle.bay_model.specs.Lookups.{node_of}
use Rattle.bay_model.specs.Named.{configured_model}
use Rattle.object_model.specs.Tables.{node_type}
use Rattle.node_reads.proofs.ReadLaws.{node-read}
use Rattle.node_reads.proofs.ShapeLaws.{node-shape}
use Rattle.node_reads.proofs.read.read_node.Goals as goal

pub returns : goal.returns
returns g c = let model = c.args.model.now in let n = c.args.node.0 in
    subst (λ v. IfOk c.read_type.result (λ r. r ≡ v))
    (node-read (g.V.LeafValues.given c.args.values.now) c.type_of.result.now c.leaves_of.result.now (node_of (configured_model model) n).tree (node_type model n) c.type_of.ensures c.leaves_of.ensures (node-shape model n c.config-config.ensures.types c.requires))
    c.read_type.ensures
