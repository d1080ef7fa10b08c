-- what the loops of `bay::Bay::write_members` keep
use Rattle.std.proofs.Common.{◌≡◌, ◌≤◌, length, take, vec_capacity}
use Rattle.bay_model.specs.Singles.{writes_of}
use Rattle.bay_core.specs.Asked.{AreWrites, IsKept, node_numbers}
use Rattle.bay_core.proofs.bay.Bay.write_members.Given as goal

-- those before this place were written
abbrev pub invariant-loop-i : goal.invariant-loop-i
invariant-loop-i l = record {
  kept : IsKept l.fn.self l.self;
  written : AreWrites l.fn.self l.self l.fn.a.0 (writes_of (node_numbers (take l.i l.fn.nodes)) (take l.i l.fn.values)) l.codes.items;
  count : length l.codes.items ≡ l.i;
  room : length l.fn.nodes ≤ vec_capacity l.codes;
}
