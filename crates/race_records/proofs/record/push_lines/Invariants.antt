-- what the loops of `record::push_lines` keep
use Rattle.std.proofs.Common.{◌≡◌, ◌++◌, drop}
use Rattle.bay_model.specs.Points.{least_moment}
use Rattle.record_outcome.specs.Histories.{octets_of}
use Rattle.race_records.specs.Merged.{merged, book_seen}
use Rattle.race_records.proofs.record.push_lines.Given as goal

abbrev pub invariant-loop-step : goal.invariant-loop-step
invariant-loop-step l =
    l.out.items ++ octets_of (merged (book_seen l.book) l.was (drop l.step-index l.made)) ≡ l.fn.out.items ++ octets_of (merged (book_seen l.book) least_moment l.made)
