-- why `growing::growth_of` answers as its contract says
use Rattle.std.proofs.Common.{◌++◌, List, ℕ, map, ap, ap₂, ◌∙◌}
use Rattle.bay_model.specs.NameTree.{grown}
use Rattle.bay_model.specs.Places.{places}
use Rattle.name_tree.specs.Grown.{items_of, spot}
use Rattle.name_tree.proofs.GrowLaws.{all-levels}
use Rattle.object_model.proofs.growing.growth_of.Goals as goal

pub returns-clause-items : goal.returns-clause-items
returns-clause-items c = c.in_ok-grow.ensures.items ∙ (ap₂ (λ (l : List (List ℕ)) path. l ++ items_of (places path (grown c.levels_of.result c.deref.result.now))) c.in_ok-growth.ensures.items c.in_ok-growth.ensures.path
    ∙ ap items_of (all-levels c.levels_of.result _ c.deref.result.now c.deref-2.result.now c.levels_of.ensures (c.deref-2.ensures.value ∙ c.in_ok-cuts.ensures) (c.deref.ensures.value ∙ c.in_ok-cuts.ensures)))

pub returns-clause-spots : goal.returns-clause-spots
returns-clause-spots c = c.in_ok-grow.ensures.spots ∙ (ap₂ (λ l path. l ++ map spot (places path (grown c.levels_of.result c.deref.result.now))) c.in_ok-growth.ensures.spots c.in_ok-growth.ensures.path
    ∙ ap (map spot) (all-levels c.levels_of.result _ c.deref.result.now c.deref-2.result.now c.levels_of.ensures (c.deref-2.ensures.value ∙ c.in_ok-cuts.ensures) (c.deref.ensures.value ∙ c.in_ok-cuts.ensures)))
