-- what the loops of `entry_octets::put_note` keep
use Rattle.std.proofs.Common.{◌≡◌, ◌≤◌, ◌*◌, length, take}
use Rattle.report_block.specs.EntryOctets.{note_octets}
use Rattle.report_block.proofs.entry_octets.put_note.Given as goal

abbrev pub invariant-loop-mention : goal.invariant-loop-mention
invariant-loop-mention l = record {
  written : l.octets ≡ record { items = note_octets l.fn.store l.fn.set (take l.mention-index l.note); room = l.fn.octets.room };
  short : length l.octets.items ≤ 504 * l.mention-index;
}
