-- what the loops of `attrs::attrs_of` keep
use Rattle.std.proofs.Common.{◌≡◌, take}
use Rattle.name_tree.specs.Attrs.{attrs_in_spots}
use Rattle.name_tree.proofs.attrs.attrs_of.Given as goal

abbrev pub invariant-loop-spot : goal.invariant-loop-spot
invariant-loop-spot l = l.attrs.items ≡ attrs_in_spots (take l.spot-index l.spots)
