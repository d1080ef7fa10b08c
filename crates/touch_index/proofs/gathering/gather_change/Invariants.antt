-- what the loops of `gathering::gather_change` keep
use Rattle.std.proofs.Common.{◌≡◌, ◌<◌, ℕ, length, drop}
use Rattle.touch_index.specs.Gathered.{CanAdd}
use Rattle.touch_index.specs.Gathering.{note_at, trg_at, add_touched}
use Rattle.touch_index.proofs.gathering.gather_change.Given as goal

-- what is left to add, and memory for it
abbrev pub invariant-loop-touch : goal.invariant-loop-touch
invariant-loop-touch l = record {
  count : length l.out.notes ≡ length l.fn.out.notes;
  rooms : (b : ℕ) → (note_at l.out.notes b).room ≡ (note_at l.fn.out.notes b).room;
  rest : (b : ℕ) → b < length l.fn.out.notes
      → add_touched b (trg_at l.trgs b) l.change (drop l.touch-index l.touches) (note_at l.out.notes b).items ≡ add_touched b (trg_at l.trgs b) l.change l.touches (note_at l.fn.out.notes b).items;
  fits : (b : ℕ) → b < length l.fn.out.notes → CanAdd b (drop l.touch-index l.touches) (note_at l.out.notes b);
}
