-- what the loops of `bay::Bay::delete_all` keep
use Rattle.std.proofs.Common.{◌≡◌, ◌≤◌, ◌+◌, drop}
use Rattle.bay_core.specs.Deleted.{after_deletions, deleted_in, matched_in}
use Rattle.bay_core.proofs.bay.Bay.delete_all.Given as goal

-- what is left to do from this place on comes to what all of it comes to
abbrev pub invariant-loop-name : goal.invariant-loop-name
invariant-loop-name l = record {
  state : after_deletions (drop l.name-index l.fn.names) l.self ≡ after_deletions l.fn.names l.fn.self;
  matched : l.matched + matched_in (drop l.name-index l.fn.names) l.self ≡ matched_in l.fn.names l.fn.self;
  deleted : l.deleted + deleted_in (drop l.name-index l.fn.names) l.self ≡ deleted_in l.fn.names l.fn.self;
  few : l.matched ≤ l.name-index;
  less : l.deleted ≤ l.name-index;
}
