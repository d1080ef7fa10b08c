-- what the loops of `member_rooms::rooms_of` keep, and why they end
use Rattle.std.proofs.Common.{◌≤◌, ◌-◌, length}
use Rattle.std.specs.List.{All}
use Rattle.block_reports.specs.Blanks.{IsRoom}
use Rattle.block_reports.proofs.member_rooms.rooms_of.Given as goal

abbrev pub invariant-loop-alloc : goal.invariant-loop-alloc
invariant-loop-alloc l = record {
  rooms : All IsRoom l.rooms.items;
  few : length l.rooms.items ≤ l.fn.most;
}

abbrev pub decreases-loop-alloc : goal.decreases-loop-alloc
decreases-loop-alloc l = l.fn.most - length l.rooms.items
