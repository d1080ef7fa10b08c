-- what the loops of `table::Assocs::open` keep, and why they end
use Rattle.std.proofs.Common.{◌≡◌, ◌≤◌, ◌-◌, length, replicate}
use Rattle.assoc_table.specs.Seats.{closed}
use Rattle.assoc_table.proofs.table.Assocs.open.Given as goal

abbrev pub invariant-loop-alloc : goal.invariant-loop-alloc
invariant-loop-alloc l = record {
  rows : l.seats.items ≡ replicate (length l.seats.items) closed;
  few : length l.seats.items ≤ 16;
}

abbrev pub decreases-loop-alloc : goal.decreases-loop-alloc
decreases-loop-alloc l = 16 - length l.seats.items
