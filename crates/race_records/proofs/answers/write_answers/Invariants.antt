-- what the loops of `answers::write_answers` keep
use Rattle.std.proofs.Common.{◌≡◌, ◌++◌, drop}
use Rattle.race_records.specs.Merged.{answered, book_seen}
use Rattle.race_records.proofs.answers.write_answers.Given as goal

abbrev pub invariant-loop-step : goal.invariant-loop-step
invariant-loop-step l = l.out.items ++ answered l.model (book_seen l.book) (drop l.step-index l.made) ≡ l.fn.out.items ++ answered l.model (book_seen l.book) l.made
