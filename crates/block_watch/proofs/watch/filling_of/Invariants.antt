-- what the loops of `watch::filling_of` keep
use Rattle.std.proofs.Common.{◌≡◌, ◌<◌, ℕ, Some, length}
use Rattle.std.specs.Prelude.{slice_get}
use Rattle.touch_index.specs.Indexed.{block_at}
use Rattle.touch_index.specs.Gathered.{IsSetOf}
use Rattle.report_block.specs.declared.block.ReportBlock.{ReportBlock}
use Rattle.block_watch.specs.Watched.{members_in}
use Rattle.block_watch.proofs.watch.filling_of.Given as goal

-- the members of the blocks before this one are put, and each block has the memory
abbrev pub invariant-loop-b : goal.invariant-loop-b
invariant-loop-b l = record {
  attrs : l.filling.attrs ≡ l.attrs;
  count : length l.filling.blocks ≡ length l.parts;
  touches : (b : ℕ) (part : ReportBlock) → b < l.b → slice_get l.parts b ≡ Some part → IsSetOf l.filling.blocks b (members_in l.rows l.book part);
  roomy : (b : ℕ) → b < length l.parts → (block_at l.filling.blocks b).room ≡ l.room;
}
