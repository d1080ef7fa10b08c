-- what the loops of `index::Index::gather` keep
use Rattle.std.proofs.Common.{◌≡◌, ◌<◌, ℕ, List, length, drop}
use Rattle.bay_model.specs.declared.tables.MemberShape.{MemberShape}
use Rattle.trigger_core.specs.Noted.{noted}
use Rattle.touch_index.specs.Gathered.{IsSetOf}
use Rattle.touch_index.specs.Gathering.{note_at, trg_at}
use Rattle.touch_index.proofs.index.Index.gather.Given as goal

-- what the changes from the last one on give, block by block
abbrev pub invariant-loop-i : goal.invariant-loop-i
invariant-loop-i l = record {
  count : length l.out.notes ≡ length l.fn.out.notes;
  rooms : (b : ℕ) → (note_at l.out.notes b).room ≡ (note_at l.fn.out.notes b).room;
  so_far : (b : ℕ) (ms : List MemberShape) → b < length l.fn.self.blocks → IsSetOf l.fn.self.blocks b ms → (note_at l.out.notes b).items ≡ noted (drop l.i l.changes) (trg_at l.trgs b) 1 ms;
}
