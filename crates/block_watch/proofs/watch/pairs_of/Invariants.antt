-- what the loops of `watch::pairs_of` keep
use Rattle.std.proofs.Common.{◌≡◌, ◌+◌, drop}
use Rattle.touch_index.specs.Indexed.{pairs}
use Rattle.block_watch.proofs.watch.pairs_of.Given as goal

abbrev pub invariant-loop-place : goal.invariant-loop-place
invariant-loop-place l = pairs l.set ≡ l.sum + pairs (drop l.place l.set)
