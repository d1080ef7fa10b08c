-- One answer more in a summary.
use Rattle.std.proofs.Common.{◌≡◌, ◌≤◌, ℕ, suc, Bool, true, false, List, ◌∷◌, length, refl, arith}
use Rattle.std.specs.Prelude.{Option, None, Some, if◌then◌else◌}
use Rattle.std.specs.List.{filter, cons_option}
use Rattle.bay_model.specs.Model.{Model}
use Rattle.bay_model.specs.Answers.{Turn, History, answer}
use Rattle.bay_model.specs.declared.answer.Answer.{Answer}
use Rattle.bay_model.specs.declared.report.Report.{Report}
use Rattle.load_run.specs.Summaries.{report_in, reports_of, summary_of}
use Rattle.load_run.specs.Counting.{with_report, with_answer, IsWithin}
use Rattle.load_run.specs.declared.summary.Summary.{Summary}

-- by the report that is given, if one is
abbrev summed : ℕ → List Report → Summary
summed n rs = record { steps = n; reports = length rs; marked = length (filter (λ (r : Report). r.ovfl) rs) }

summed-more : (n : ℕ) (rs : List Report) (o : Option Report) → summed (suc n) (cons_option o rs) ≡ with_report (summed n rs) o
summed-more n rs None = refl
summed-more n rs (Some r) = by r.ovfl where
  marked : ℕ
  marked = length (filter (λ (r : Report). r.ovfl) rs)

  by : (b : Bool) → ◌≡◌ {A = Summary} (record { steps = suc n; reports = suc (length rs); marked = length (if b then r ∷ filter (λ (r : Report). r.ovfl) rs else filter (λ (r : Report). r.ovfl) rs) })
      (record { steps = suc n; reports = suc (length rs); marked = if b then suc marked else marked })
  by true = refl
  by false = refl

pub summary-more : (m : Model) (h : History) (t : Turn) → summary_of m (t ∷ h) ≡ with_answer (summary_of m h) (answer m h t)
summary-more m h t = summed-more (length h) (reports_of m h) (report_in (answer m h t))

-- each number grows by one at most
pub within-more : (s : Summary) (a : Answer) (n : ℕ) → IsWithin s n → IsWithin (with_answer s a) (suc n)
within-more s a n w = by (report_in a) where
  by : (o : Option Report) → IsWithin (with_report s o) (suc n)
  by None = (omega (arith, w.0), omega (arith, w.1), omega (arith, w.2))
  by (Some r) = (omega (arith, w.0), omega (arith, w.1), marked r.ovfl) where
    marked : (b : Bool) → (if b then suc s.marked else s.marked) ≤ suc n
    marked true = omega (arith, w.2)
    marked false = omega (arith, w.2)
