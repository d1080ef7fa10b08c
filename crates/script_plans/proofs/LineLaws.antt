-- The lines of an input: how the octets are divided into them, and which ones are read.
use Rattle.std.proofs.Common.{◌≡◌, ◌≤◌, ◌<◌, ◌==◌, ◌||◌, ℕ, suc, Bool, true, false, not, List, [], ◌∷◌, ◌++◌, length, refl, ap, ◌∙◌, arith, append_assoc}
use Rattle.std.specs.Prelude.{Ok, Err, nat_lt, if◌then◌else◌}
use Rattle.std.specs.List.{list_all}
use Rattle.std.proofs.lemmas.List.Splits.{slice_split_at}
use Rattle.text_words.specs.Octets.{is_printable, is_skipped}
use Rattle.text_words.specs.Words.{words_of}
use Rattle.run_record.specs.Judging as judging
use Rattle.run_record.specs.declared.fault.Kind.TheVariants as kinds
use Rattle.run_record.specs.declared.line.RecLine.TheVariants as lines
use Rattle.record_outcome.specs.Histories.{octets_of}
use Rattle.record_outcome.specs.Records.{most_lines, NoNewline, pieces}
use Rattle.record_outcome.specs.Grammar.{Each}
use Rattle.record_outcome.proofs.LineLaws.{no-newline}
use Rattle.script_lines.specs.Lines.{beside, script_line_at}
use Rattle.script_lines.specs.declared.line.ScriptLine.{ScriptLine}
use Rattle.script_plans.specs.Moves.{Place, stops}
use Rattle.script_plans.specs.Inputs.{passed, lines_at, line_at, moved, run}
use Rattle.list_laws.proofs.Places.{not-below}

-- ---- octets

pub line-first : (line : List ℕ) (ls : List (List ℕ)) (more : List ℕ) → octets_of (line ∷ ls) ++ more ≡ line ++ 10 ∷ (octets_of ls ++ more)
line-first line ls more = append_assoc (line ++ 10 ∷ []) (octets_of ls) more ∙ append_assoc line (10 ∷ []) (octets_of ls ++ more)

pub line-pieces : (ls : List (List ℕ)) (more : List ℕ) → Each NoNewline ls → pieces (octets_of ls ++ more) ≡ ls ++ pieces more
line-pieces [] more clean = refl
line-pieces (l ∷ ls) more clean = ap pieces (line-first l ls more) ∙ (slice_split_at (λ b. b == 10) l 10 (octets_of ls ++ more) clean.0 refl ∙ ap (λ (ps : List (List ℕ)). l ∷ ps) (line-pieces ls more clean.1))

-- a line that is read has none
pub read-clean : (text : List ℕ) (v : ScriptLine) → script_line_at text ≡ Ok v → NoNewline text
unfolding script_line_at judging.line_at
read-clean text v reads = no-newline text (by (nat_lt 140100 (length text)) (list_all is_printable text) reads) where
  by : (a b : Bool) → beside text (if a || not b then Err kinds.Long else if is_skipped text then Ok lines.Skip else judging.tell_at (words_of text)) ≡ Ok v → b ≡ true
  by true b e = absurd cc
  by false true e = refl
  by false false e = absurd cc

-- ---- lines one after another

pub run-on : (long : Bool) (count : ℕ) (place : Place) (line : List ℕ) (more : List (List ℕ)) → 0 < length more
    → run long count place (line ∷ more) ≡ moved (line_at (suc count) place line) (λ to. run long (suc count) to more)
run-on long count place line [] some = absurd (omega (arith, some))
run-on long count place line (next ∷ more) some = refl

pub below-lines : (number : ℕ) (place : Place) (line : List ℕ) → number ≤ most_lines → line_at number place line ≡ lines_at number place line
unfolding line_at
below-lines number place line low = ap (λ b. if b then stops (passed 1 number place) else lines_at number place line) (not-below most_lines number low)
