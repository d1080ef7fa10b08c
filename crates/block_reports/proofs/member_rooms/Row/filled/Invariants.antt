-- what the loops of `member_rooms::Row::filled` keep, and why they end
use Rattle.std.proofs.Common.{◌≡◌, ◌+◌, List, length}
use Rattle.bay_model.specs.Notes.{Kept}
use Rattle.block_reports.specs.Blanks.{AreFew}
use Rattle.block_reports.proofs.AgainLaws.{Filling}
use Rattle.block_reports.proofs.member_rooms.Row.filled.Given as goal

-- n members are read, and there is capacity for the others; no buffer is lost
abbrev pub invariant-loop-front : goal.invariant-loop-front
invariant-loop-front l = record {
  filling : (ks : List Kept) → AreFew l.fn.self.left l.fn.octets ks → Filling l.fn.model l.fn.set ks l.row l.rest;
  count : length l.row.items + l.row.left ≡ l.fn.self.left;
}

abbrev pub decreases-loop-front : goal.decreases-loop-front
decreases-loop-front l = length l.rest
