-- what the loops of `time::pass_all` keep, and why they end
use Rattle.std.proofs.Common.{◌≡◌, ◌-◌, ◌++◌, ◌≤◌, ◌<◌, ℕ, Option, Some, map, take, drop, length}
use Rattle.std.specs.Prelude.{slice_get}
use Rattle.report_block.specs.declared.block.ReportBlock.{ReportBlock}
use Rattle.block_events.specs.Events.{IsReady}
use Rattle.block_events.specs.Timed.{arrived_part, IsQuietUntil}
use Rattle.block_events.proofs.time.pass_all.Given as goal

-- time has passed for the parts before this place
abbrev pub invariant-loop-place : goal.invariant-loop-place
invariant-loop-place l = record {
  parts : l.parts.items ≡ map (arrived_part l.fn.source.rows.now l.fn.source.book.now l.fn.source.store.now l.fn.was l.fn.now l.fn.step) (take l.place l.fn.parts.items) ++ drop l.place l.fn.parts.items;
  within : l.place ≤ length l.fn.parts.items;
  entry : l.octets.room ≡ 129024;
  count : length l.dues ≡ length l.parts.items;
  done : (b : ℕ) (due : Option ℕ) (part : ReportBlock) → b < l.place → slice_get l.dues b ≡ Some due → slice_get l.parts.items b ≡ Some part → IsQuietUntil l.fn.now due part;
  left : (b : ℕ) (due : Option ℕ) (part : ReportBlock) → l.place ≤ b → slice_get l.dues b ≡ Some due → slice_get l.parts.items b ≡ Some part → IsQuietUntil l.fn.was due part;
  ready : (b : ℕ) (part : ReportBlock) → l.place ≤ b → slice_get l.parts.items b ≡ Some part → IsReady l.fn.source.rows.now l.fn.source.book.now l.fn.source.store.now part;
}

abbrev pub decreases-loop-place : goal.decreases-loop-place
decreases-loop-place l = length l.fn.parts.items - l.place
