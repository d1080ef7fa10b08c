-- What is written of a made record that is replayed.
use Rattle.std.specs.Prelude.{ℕ, List, ◌++◌, codes, Option}
use Rattle.std.specs.Io.KnownBytes.{Appends}
use Rattle.record_outcome.specs.Histories.{Recorded}
use Rattle.load_run.specs.Summaries.{IsSummed}
use Rattle.load_run.specs.declared.summary.Summary.{Summary}
use Rattle.replay_run.specs.Checked.{count}

-- a word and how many there are
abbrev pub count_line : List ℕ → ℕ → List ℕ
count_line word n = word ++ (count n ++ codes "\n")

abbrev pub summary_text : Summary → List ℕ
summary_text s = count_line (codes "steps") s.steps ++ (count_line (codes "reports") s.reports ++ (count_line (codes "marked") s.marked ++ codes "end\n"))

-- the summary of the history is written
abbrev pub WritesSummary : Option Recorded → Option (List ℕ) → Option (List ℕ) → Type 0
WritesSummary history old new = (s : Summary) × IsSummed history s × Appends old new (summary_text s)
