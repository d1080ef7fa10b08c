-- what the loops of `growth::grow` keep, and why they end
use Rattle.std.proofs.Common.{◌≡◌, ◌+◌, ◌*◌, ◌-◌, ◌++◌, map, take}
use Rattle.bay_model.specs.NameTree.{nothing}
use Rattle.bay_model.specs.Places.{places}
use Rattle.name_tree.specs.Grown.{IsGrown, items_of, spot, forest_of}
use Rattle.name_tree.proofs.growth.+grow.Given as goal

abbrev pub decreases-grow : goal.decreases-grow
decreases-grow l = 2 * l.levels

abbrev pub decreases-grow_name : goal.decreases-grow_name
decreases-grow_name l = 2 * l.levels + 1

abbrev pub invariant-grow-loop-group : goal.invariant-grow-loop-group
invariant-grow-loop-group l = record {
  all : IsGrown l.fn.all nothing → IsGrown l.all (forest_of (l.levels - 1) (take l.group-index l.group-items));
  items : l.growth.items ≡ l.initial.growth.items ++ items_of (places l.initial.growth.path.items (forest_of (l.levels - 1) (take l.group-index l.group-items)));
  spots : l.growth.spots.items ≡ l.initial.growth.spots.items ++ map spot (places l.initial.growth.path.items (forest_of (l.levels - 1) (take l.group-index l.group-items)));
  path : l.growth.path.items ≡ l.initial.growth.path.items;
}
