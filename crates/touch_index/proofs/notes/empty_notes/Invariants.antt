-- what the loops of `notes::empty_notes` keep
use Rattle.std.proofs.Common.{◌≡◌, [], replicate}
use Rattle.touch_index.proofs.notes.empty_notes.Given as goal

abbrev pub invariant-loop : goal.invariant-loop
invariant-loop l = l.notes.items ≡ replicate l.counter (record { items = []; room = l.room })
