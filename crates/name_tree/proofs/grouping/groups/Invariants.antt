-- what the loops of `grouping::groups` keep
use Rattle.std.proofs.Common.{◌≡◌, map, take}
use Rattle.name_tree.specs.Groups.{groups, group_name, PlacesFront}
use Rattle.name_tree.proofs.grouping.groups.Given as goal

abbrev pub invariant-loop-cut : goal.invariant-loop-cut
invariant-loop-cut l = record {
  placed : PlacesFront l.places (map group_name l.groups.items);
  groups : l.groups.items ≡ groups (take l.cut-index l.cuts);
}
