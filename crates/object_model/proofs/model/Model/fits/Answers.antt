-- why `model::Model::fits` answers as its contract says
use Rattle.std.proofs.Common.{◌∙◌}
use Rattle.object_model.proofs.KindLaws.{settable, fits-is}
use Rattle.object_model.proofs.model.Model.fits.Goals as goal

pub step_fits-requires : goal.step_fits-requires
step_fits-requires c = settable c.self.inside.config c.as_slice.result.now (c.as_slice.ensures.value ∙ c.self.invariant.5) c.self.invariant.4

pub returns : goal.returns
returns c = c.step_fits.ensures ∙ fits-is c.self.inside.config c.args.self.now c.self.inside.tables.nodes c.as_slice.result.now c.len.result c.len-2.result c.len-3.result c.args.step.now c.self.view_is c.self.invariant.3.nodes (c.as_slice.ensures.value ∙ c.self.invariant.5) c.len.ensures c.len-2.ensures c.len-3.ensures
