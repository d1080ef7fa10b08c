-- what the loops of `ring::make_room` keep, and why they end
use Rattle.std.proofs.Common.{◌≡◌, length, drop}
use Rattle.entry_ring.specs.Fitting.{least_for}
use Rattle.entry_ring.proofs.ring.make_room.Given as goal

abbrev pub invariant-loop-room : goal.invariant-loop-room
invariant-loop-room l = record {
  capacity : l.room.capacity ≡ l.fn.room.capacity;
  left : drop (least_for l.fn.room.capacity l.fn.size l.room.entries) l.room.entries ≡ drop (least_for l.fn.room.capacity l.fn.size l.fn.room.entries) l.fn.room.entries;
}

abbrev pub decreases-loop-room : goal.decreases-loop-room
decreases-loop-room l = length l.room.entries
