-- why `model::Model::domain_of` answers as its contract says
use Rattle.std.proofs.Common.{◌∙◌, ap, get_or}
use Rattle.bay_model.specs.NamedLines.{domains}
use Rattle.name_order.specs.Sorting.{name_at}
use Rattle.object_model.proofs.TableLaws.{no_name, within-names, name-of}
use Rattle.object_model.proofs.model.Model.domain_of.Goals as goal

pub bounds-as_slice-node : goal.bounds-as_slice-node
bounds-as_slice-node c = within-names c.self.inside.config c.args.self.now c.as_slice.result.now c.args.node.0 c.self.view_is (c.as_slice.ensures.value ∙ c.self.invariant.3.names) c.requires

pub returns : goal.returns
returns c = c.name_at.ensures ∙ (ap (λ ds. name_at ds (get_or c.as_slice.result.now c.args.node.0 no_name).domain) (c.self.invariant.3.finds.domain_names ∙ ap domains c.self.view_is)
    ∙ (name-of c.self.inside.config c.args.self.now c.as_slice.result.now c.args.node.0 c.self.view_is (c.as_slice.ensures.value ∙ c.self.invariant.3.names) c.requires).domain)
