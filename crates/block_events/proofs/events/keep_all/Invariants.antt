-- what the loops of `setting::keep_all` keep, and why they end
use Rattle.std.proofs.Common.{◌≡◌, ℕ, Some, length}
use Rattle.std.specs.Prelude.{slice_get}
use Rattle.touch_index.specs.Gathering.{note_at}
use Rattle.report_block.specs.declared.block.ReportBlock.{ReportBlock}
use Rattle.report_block.specs.Events.{HasRoom}
use Rattle.block_events.specs.Timed.{AreQuietUntil}
use Rattle.block_watch.specs.Watched.{IsNoteOf}
use Rattle.block_events.proofs.NoteLaws.{noting}
use Rattle.block_events.proofs.events.keep_all.Given as goal

-- each part with what is left of its note comes to what it is to come to
abbrev pub invariant-loop-b : goal.invariant-loop-b
invariant-loop-b l = record {
  parts : length l.parts.items ≡ length l.fn.parts.items;
  count : length l.notes.notes ≡ length l.fn.notes.notes;
  rooms : (b : ℕ) → (note_at l.notes.notes b).room ≡ (note_at l.fn.notes.notes b).room;
  entry : l.octets.room ≡ 129024;
  events : HasRoom 256 l.events;
  quiet : AreQuietUntil l.fn.moment l.dues l.parts.items;
  left : (b : ℕ) (part : ReportBlock) → slice_get l.fn.parts.items b ≡ Some part
      → (now : ReportBlock) × (slice_get l.parts.items b ≡ Some now) × IsNoteOf l.fn.source.rows.now l.fn.source.book.now l.fn.source.store.now now (note_at l.notes.notes b).items
      × (noting l.fn.source.rows.now l.fn.source.book.now l.fn.source.store.now l.fn.moment l.fn.step (note_at l.notes.notes b).items now ≡ noting l.fn.source.rows.now l.fn.source.book.now l.fn.source.store.now l.fn.moment l.fn.step (note_at l.fn.notes.notes b).items part);
}

abbrev pub decreases-loop-b : goal.decreases-loop-b
decreases-loop-b l = length l.notes.touched
