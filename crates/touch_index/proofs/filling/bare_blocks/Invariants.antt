-- what the loops of `filling::bare_blocks` keep
use Rattle.std.proofs.Common.{◌≡◌, replicate}
use Rattle.touch_index.specs.Indexed.{bare}
use Rattle.touch_index.proofs.filling.bare_blocks.Given as goal

abbrev pub invariant-loop : goal.invariant-loop
invariant-loop l = l.made.items ≡ replicate l.counter (bare l.room)
