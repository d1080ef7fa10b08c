-- why `model::Model::type_of` answers as its contract says
use Rattle.std.proofs.Common.{◌∙◌, ap, sym}
use Rattle.object_model.proofs.TableLaws.{within-rows, row-of}
use Rattle.bay_model.specs.declared.tables.NodeRow.{NodeRow}
use Rattle.object_model.proofs.model.Model.type_of.Goals as goal

pub bounds-as_slice-node : goal.bounds-as_slice-node
bounds-as_slice-node c = within-rows c.self.inside.config c.args.self.now c.as_slice.result.now c.args.node.0 c.self.view_is (c.as_slice.ensures ∙ c.self.invariant.3.nodes) c.requires

pub returns : goal.returns
returns c = ap (λ (r : NodeRow). r.shape.kind) (sym c.index-as_slice-node.is) ∙ (row-of c.self.inside.config c.args.self.now c.as_slice.result.now c.args.node.0 c.index-as_slice-node.result c.self.view_is (c.as_slice.ensures ∙ c.self.invariant.3.nodes) c.requires c.index-as_slice-node.is).kind
