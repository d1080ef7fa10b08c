-- what the loops of `reading::read_all` keep
use Rattle.std.proofs.Common.{◌≡◌, ◌++◌, take, drop}
use Rattle.bay_queues.specs.Queued.{configs}
use Rattle.bay_core.specs.Turned.{after_turns, in_turns}
use Rattle.bay_core.proofs.reading.read_all.Given as goal

-- those before this place were read in their turn
abbrev pub invariant-loop-place : goal.invariant-loop-place
invariant-loop-place l = record {
  rows : l.queues.rows ≡ l.fn.queues.rows;
  configs : configs l.queues.table ≡ configs l.fn.queues.table;
  controls : after_turns l.fn.a.0 l.fn.model (drop l.place l.fn.targets) l.queues.table ≡ after_turns l.fn.a.0 l.fn.model l.fn.targets l.fn.queues.table;
  results : take l.place l.results.items ++ in_turns l.fn.a.0 l.fn.model (drop l.place l.fn.targets) l.queues.table (drop l.place l.results.items)
      ≡ in_turns l.fn.a.0 l.fn.model l.fn.targets l.fn.queues.table l.fn.results.items;
}
