-- what the loops of `events::put_each` keep
use Rattle.std.proofs.Common.{◌≡◌, ◌≤◌, ◌*◌, map, take, length}
use Rattle.std.specs.List.{concat}
use Rattle.bay_model.specs.declared.note.Mention.{Mention}
use Rattle.bay_model.specs.Retained.{kept_octets_of}
use Rattle.report_block.specs.EntryOctets.{kept_of}
use Rattle.report_block.proofs.events.put_each.Given as goal

abbrev pub invariant-loop-mention : goal.invariant-loop-mention
invariant-loop-mention l = record {
  each : l.each ≡ record { items = map (λ (m : Mention). kept_octets_of (kept_of l.fn.store l.fn.set m)) (take l.mention-index l.note); members = l.fn.each.members; room = l.fn.each.room };
  one : l.one.room ≡ l.fn.one.room;
  short : length (concat l.each.items) ≤ 504 * l.mention-index;
}
