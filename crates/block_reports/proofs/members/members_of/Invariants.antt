-- what the loops of `members::members_of` keep, and why they end
use Rattle.std.proofs.Common.{◌≤◌, List, length, take}
use Rattle.bay_model.specs.Notes.{Kept}
use Rattle.block_reports.specs.Again.{AreKept}
use Rattle.block_reports.proofs.AgainLaws.{Halfway}
use Rattle.block_reports.proofs.members.members_of.Given as goal

-- n members are read; what stands after them is the spare's
abbrev pub invariant-loop-front : goal.invariant-loop-front
invariant-loop-front l = record {
  within : l.count ≤ length l.items.items;
  read : (ks : List Kept) → AreKept l.fn.octets ks → Halfway l.fn.model l.fn.set ks (take l.count l.items.items) l.rest;
}

abbrev pub decreases-loop-front : goal.decreases-loop-front
decreases-loop-front l = length l.rest
