-- what the loops of `growth::own_type` keep
use Rattle.std.proofs.Common.{◌≡◌, drop}
use Rattle.bay_model.specs.NameTree.{own_type}
use Rattle.name_tree.proofs.growth.own_type.Given as goal

abbrev pub invariant-loop-cut : goal.invariant-loop-cut
invariant-loop-cut l = own_type (drop l.cut-index l.cuts) ≡ own_type l.cuts
