-- what the loops of `growing::levels_of` keep
use Rattle.std.proofs.Common.{◌≡◌, ◌≤◌, suc, max, drop}
use Rattle.bay_model.specs.NameTree.{longest}
use Rattle.object_model.proofs.growing.levels_of.Given as goal

abbrev pub invariant-loop-cut : goal.invariant-loop-cut
invariant-loop-cut l = record {
  some : 1 ≤ l.most;
  most : max l.most (suc (longest (drop l.cut-index l.cuts))) ≡ suc (longest l.cuts);
}
