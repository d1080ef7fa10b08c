-- why `model::Model::flags` answers as its contract says
use Rattle.std.proofs.Common.{◌∙◌, ap, sym}
use Rattle.bay_model.specs.declared.tables.AttrRow.{AttrRow}
use Rattle.object_model.proofs.AttributeLaws.{within-rows, flags-read}
use Rattle.object_model.proofs.model.Model.flags.Goals as goal

pub bounds-as_slice-attr : goal.bounds-as_slice-attr
bounds-as_slice-attr c = within-rows c.self.inside.config c.args.self.now c.as_slice.result.now c.args.attr.0 c.self.view_is (c.as_slice.ensures.value ∙ c.self.invariant.5) c.requires

pub bounds-as_slice-attr-2 : goal.bounds-as_slice-attr-2
bounds-as_slice-attr-2 c = within-rows c.self.inside.config c.args.self.now c.as_slice.result.now c.args.attr.0 c.self.view_is (c.as_slice.ensures.value ∙ c.self.invariant.5) c.requires

pub returns : goal.returns
returns c = ap (λ (r : AttrRow). r.flags) (sym c.index-as_slice-attr.is)
    ∙ flags-read c.self.inside.config c.args.self.now c.as_slice.result.now c.args.attr.0 c.index-as_slice-attr.result c.self.view_is (c.as_slice.ensures.value ∙ c.self.invariant.5) c.requires c.index-as_slice-attr.is
