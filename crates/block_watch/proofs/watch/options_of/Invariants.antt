-- what the loops of `watch::options_of` keep
use Rattle.std.proofs.Common.{◌≡◌, take}
use Rattle.block_watch.specs.Watched.{options_in}
use Rattle.block_watch.proofs.watch.options_of.Given as goal

abbrev pub invariant-loop-part : goal.invariant-loop-part
invariant-loop-part l = l.options.items ≡ options_in (take l.part-index l.parts)
