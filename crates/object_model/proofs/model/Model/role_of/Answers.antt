-- why `model::Model::role_of` answers as its contract says
use Rattle.std.proofs.Common.{◌∙◌}
use Rattle.name_tree.specs.declared.stands.Stand.{Stand}
use Rattle.name_leaves.specs.declared.what.What.TheVariants as whats
use Rattle.object_model.proofs.StandsLaid.{within-stands, stands-read}
use Rattle.object_model.proofs.model.Model.role_of.Goals as goal

abbrev no_stand : Stand
no_stand = record { what = whats.Attribute 0; first = 0; end = 0 }

pub bounds-as_slice-node : goal.bounds-as_slice-node
bounds-as_slice-node c = within-stands c.self.inside.config c.args.self.now c.as_slice.result.now c.args.node.0 c.self.view_is (c.as_slice.ensures.value ∙ c.self.invariant.3.stands) c.requires

pub returns : goal.returns
returns c = (stands-read c.self.inside.config c.args.self.now c.as_slice.result.now c.args.node.0 no_stand c.self.view_is (c.as_slice.ensures.value ∙ c.self.invariant.3.stands) c.requires).role
