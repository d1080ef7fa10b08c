-- what the loops of `watch::reserve_all` keep
use Rattle.std.proofs.Common.{◌≤◌, ◌<◌, ℕ}
use Rattle.touch_index.specs.Indexed.{block_at}
use Rattle.block_watch.specs.Watched.{IsRoomier}
use Rattle.block_watch.proofs.watch.reserve_all.Given as goal

-- the blocks before this one have the memory
abbrev pub invariant-loop-b : goal.invariant-loop-b
invariant-loop-b l = record {
  grown : IsRoomier l.fn.index l.index;
  made : (b : ℕ) → b < l.b → l.fn.pairs ≤ (block_at l.index.blocks b).room;
}
