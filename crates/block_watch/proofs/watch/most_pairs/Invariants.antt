-- what the loops of `watch::most_pairs` keep
use Rattle.std.proofs.Common.{◌≤◌, ◌<◌, ℕ}
use Rattle.touch_index.specs.Indexed.{pairs}
use Rattle.block_watch.specs.Watched.{members_at}
use Rattle.block_watch.proofs.watch.most_pairs.Given as goal

-- the sets before this one have no more
abbrev pub invariant-loop-number : goal.invariant-loop-number
invariant-loop-number l = (k : ℕ) → k < l.number → pairs (members_at l.rows l.book k) ≤ l.most
