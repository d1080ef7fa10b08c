-- what the loops of `growth::what_of` keep
use Rattle.std.proofs.Common.{◌≡◌, drop}
use Rattle.bay_model.specs.NameTree.{role_of}
use Rattle.name_tree.proofs.growth.what_of.Given as goal

abbrev pub invariant-loop-cut : goal.invariant-loop-cut
invariant-loop-cut l = role_of (drop l.cut-index l.cuts) ≡ role_of l.cuts
