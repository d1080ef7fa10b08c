-- why `model::Model::item_of` answers as its contract says
use Rattle.std.proofs.Common.{◌∙◌, sym, subst, get_or}
use Rattle.name_tree.specs.Finding.{Finds}
use Rattle.object_model.proofs.TableLaws.{NameAt, no_name, within-names, name-of}
use Rattle.object_model.proofs.model.Model.item_of.Goals as goal

pub bounds-as_slice-node : goal.bounds-as_slice-node
bounds-as_slice-node c = within-names c.self.inside.config c.args.self.now c.as_slice.result.now c.args.node.0 c.self.view_is (c.as_slice.ensures.value ∙ c.self.invariant.3.names) c.requires

pub returns : goal.returns
returns c =
    let at : NameAt c.args.self.now c.args.node.0 (get_or c.as_slice.result.now c.args.node.0 no_name) = name-of c.self.inside.config c.args.self.now c.as_slice.result.now c.args.node.0 c.self.view_is (c.as_slice.ensures.value ∙ c.self.invariant.3.names) c.requires in
    let finds : Finds c.args.self.now c.self.inside.tables.domains c.deref.result.now = subst (λ m. Finds m c.self.inside.tables.domains c.deref.result.now) c.self.view_is (subst (Finds c.self.inside.config c.self.inside.tables.domains) (sym c.deref.ensures.value) c.self.invariant.3.finds) in
    c.item_at.ensures c.args.self.now c.self.inside.tables.domains finds at.within ∙ at.item
