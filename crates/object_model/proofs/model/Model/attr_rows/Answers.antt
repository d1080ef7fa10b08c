-- why `model::Model::attr_rows` answers as its contract says
use Rattle.std.proofs.Common.{◌∙◌, ap, subst}
use Rattle.std.specs.List.{All}
use Rattle.sv_base.specs.declared.config.Config.{Config}
use Rattle.bay_rooms.specs.Slots.{IsSettable}
use Rattle.name_leaves.specs.Attributes.{types_of}
use Rattle.object_model.specs.Fits.{attr_types}
use Rattle.object_model.proofs.AttributeLaws.{rows-types}
use Rattle.object_model.proofs.KindLaws.{types-settable}
use Rattle.object_model.proofs.model.Model.attr_rows.Goals as goal

pub returns-clause-types : goal.returns-clause-types
returns-clause-types c = ap types_of (c.as_slice.ensures.value ∙ c.self.invariant.5) ∙ (rows-types c.self.inside.config ∙ ap attr_types c.self.view_is)

pub returns-clause-settable : goal.returns-clause-settable
returns-clause-settable c = subst (λ (m : Config). All IsSettable (attr_types m)) c.self.view_is (types-settable c.self.inside.config c.self.invariant.4)
