-- What one answer more makes of the numbers.
use Rattle.std.specs.Prelude.{◌≤◌, ℕ, suc, Option, None, Some, if◌then◌else◌}
use Rattle.bay_model.specs.declared.answer.Answer.{Answer}
use Rattle.bay_model.specs.declared.report.Report.{Report}
use Rattle.load_run.specs.Summaries.{report_in}
use Rattle.load_run.specs.declared.summary.Summary.{Summary}

-- a step more, which gave this report
abbrev pub with_report : Summary → Option Report → Summary
with_report s None = record { steps = suc s.steps; reports = s.reports; marked = s.marked }
with_report s (Some r) = record { steps = suc s.steps; reports = suc s.reports; marked = if r.ovfl then suc s.marked else s.marked }

abbrev pub with_answer : Summary → Answer → Summary
with_answer s a = with_report s (report_in a)

-- each number is n at most
abbrev pub IsWithin : Summary → ℕ → Type 0
IsWithin s n = (s.steps ≤ n) × (s.reports ≤ n) × (s.marked ≤ n)
