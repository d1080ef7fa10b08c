-- What the answers to a history come to in numbers.
use Rattle.std.specs.Prelude.{◌≡◌, List, [], ◌∷◌, length, Option, None, Some}
use Rattle.std.specs.List.{filter, filter_map}
use Rattle.bay_model.specs.Model.{Model}
use Rattle.bay_model.specs.Named.{configured_model}
use Rattle.bay_model.specs.Answers.{History, answer}
use Rattle.bay_model.specs.declared.answer.Answer.{Answer}
use Rattle.bay_model.specs.declared.answer.Answer.TheVariants as answers
use Rattle.bay_model.specs.declared.answer.Output.TheVariants as outputs
use Rattle.bay_model.specs.declared.report.Report.{Report}
use Rattle.record_outcome.specs.Histories.{Recorded}
use Rattle.record_outcome.specs.Texts.{turns_in}
use Rattle.record_outcome.specs.Written.{IsAccepted}
use Rattle.load_run.specs.declared.summary.Summary.{Summary}

-- what each step of a history is answered, the newest first
abbrev pub answers_of : Model → History → List Answer
answers_of m [] = []
answers_of m (t ∷ before) = answer m before t ∷ answers_of m before

-- the report of an answer, if a take gave one
abbrev pub report_in : Answer → Option Report
report_in (answers.Taken (outputs.Report r)) = Some r
report_in _ = None

abbrev pub reports_of : Model → History → List Report
reports_of m h = filter_map report_in (answers_of m h)

-- those before which unsent entries were discarded
abbrev pub marked_of : Model → History → List Report
marked_of m h = filter (λ (r : Report). r.ovfl) (reports_of m h)

abbrev pub summary_of : Model → History → Summary
summary_of m h = record { steps = length h; reports = length (reports_of m h); marked = length (marked_of m h) }

-- the history is there, its steps are accepted, and this is its summary
abbrev pub IsSummed : Option Recorded → Summary → Type 0
IsSummed None s = ⊥
IsSummed (Some r) s = IsAccepted r × (s ≡ summary_of (configured_model r.config) (turns_in r.steps))
