-- what the loops of `entry_octets::put_all` keep
use Rattle.std.proofs.Common.{◌≡◌, ◌≤◌, ◌*◌, ◌++◌, suc, drop, length}
use Rattle.report_block.specs.Alls.{all_from}
use Rattle.report_block.specs.EntryOctets.{note_octets}
use Rattle.report_block.proofs.entry_octets.put_all.Given as goal

-- with the octets of the members that are left, those of all
abbrev pub invariant-loop-place : goal.invariant-loop-place
invariant-loop-place l = record {
  rest : note_octets l.fn.store l.fn.set (all_from l.reasons 1 l.fn.set) ≡ l.octets.items ++ note_octets l.fn.store l.fn.set (all_from l.reasons (suc l.place) (drop l.place l.fn.set));
  room : l.octets.room ≡ l.fn.octets.room;
  short : length l.octets.items ≤ 504 * l.place;
}
