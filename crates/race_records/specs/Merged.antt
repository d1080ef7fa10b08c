-- The record that the scripts of a plan make in a history, and the answers to it: the lines in the order of the history, with an
-- `at` line exactly where the moment differs from that of the line before.
use Rattle.std.specs.Prelude.{◌≡◌, ℕ, ◌==◌, true, is_some, List, [], ◌∷◌, ◌++◌, map, codes, Vec, Option, None, Some, slice_get, slice_index_or, if◌then◌else◌}
use Rattle.std.specs.declared.alloc.Global.{Global}
use Rattle.sv_base.specs.declared.config.Config.{Config}
use Rattle.bay_model.specs.declared.answer.Answer.{Answer}
use Rattle.bay_model.specs.declared.step.Step.{Step}
use Rattle.bay_model.specs.Points.{least_moment}
use Rattle.bay_model.specs.Answers.{History}
use Rattle.bay_histories.specs.Rules.{bay_rules}
use Rattle.answer_text.specs.Texts.{lines_of}
use Rattle.stream_lines.specs.declared.shape.Shape.{Shape}
use Rattle.run_record.specs.Judging.{line_at}
use Rattle.run_record.specs.Spelled.{spelled}
use Rattle.run_record.specs.declared.line.RecLine.TheVariants as lines
use Rattle.record_steps.specs.Forms.{shape_of}
use Rattle.record_steps.specs.Told.{Told, turn}
use Rattle.record_outcome.specs.Histories.{octets_of, said_in}
use Rattle.actor_scripts.specs.Scripts.{made_of}
use Rattle.actor_scripts.specs.declared.made.Made.{Made}
use Rattle.script_plans.specs.Forms.{form_in, IsFit}
use Rattle.script_plans.specs.Plans.{Script, Plan}
use Rattle.script_plans.specs.declared.line.StepLine.{StepLine}

-- the lines of all scripts, by the numbers of their actors
abbrev pub Book : Type 0
Book = List (List StepLine)

abbrev pub lines_in : Option Script → List StepLine
lines_in None = []
lines_in (Some s) = s.lines

abbrev pub book_of : Plan → Book
book_of p = map lines_in p.scripts

-- the line of a step that was made
abbrev pub line_of : Book → Made → Option StepLine
line_of book m = slice_get (slice_index_or book m.actor []) m.index

abbrev pub HasLine : Book → Made → Type 0
HasLine book m = is_some (line_of book m) ≡ true

-- the line alone gives a step
abbrev pub TellsStep : Config → StepLine → Type 0
TellsStep c l = IsFit l.form × (actor : ℕ) × (step : Step) × (said_in c (form_in l.form) (line_at l.text) ≡ turn actor step)

-- a step that was made has its line, which gives a step
pub record IsAnswerable (c : Config) (book : Book) (m : Made) : Type 0 where
  pub line : StepLine
  pub there : line_of book m ≡ Some line
  pub tells : TellsStep c line

-- ---- the record

abbrev pub at_lines : ℕ → ℕ → List (List ℕ)
at_lines was now = if was == now then [] else spelled (lines.At now) ∷ []

-- a line after one of this moment
abbrev pub lines_behind : ℕ → Option StepLine → List (List ℕ)
lines_behind was None = []
lines_behind was (Some l) = at_lines was l.moment ++ l.text ∷ []

abbrev pub moment_behind : ℕ → Option StepLine → ℕ
moment_behind was None = was
moment_behind was (Some l) = l.moment

-- the lines of steps that were made, the first one first, after a line of this moment
abbrev pub merged : Book → ℕ → List Made → List (List ℕ)
merged book was [] = []
merged book was (m ∷ ms) = lines_behind was (line_of book m) ++ merged book (moment_behind was (line_of book m)) ms

abbrev pub record_with : List ℕ → List (List ℕ) → List ℕ
record_with text steps = codes "record 1" ++ 10 ∷ (text ++ (octets_of steps ++ (codes "end" ++ 10 ∷ [])))

abbrev pub record_of : Plan → History → List ℕ
record_of p h = record_with p.text (merged (book_of p) least_moment (made_of bay_rules p.config h))

-- ---- the answers

-- what is answered to a step that a line told
abbrev pub lines_told : Config → Shape → Told → Answer → List ℕ
lines_told c shape (turn actor step) answer = lines_of c shape step answer
lines_told c shape _ answer = []

abbrev pub answer_to : Config → Option StepLine → Answer → List ℕ
answer_to c None answer = []
answer_to c (Some l) answer = lines_told c (shape_of (form_in l.form)) (said_in c (form_in l.form) (line_at l.text)) answer

abbrev pub answered : Config → Book → List Made → List ℕ
answered c book [] = []
answered c book (m ∷ ms) = answer_to c (line_of book m) m.answer ++ answered c book ms

abbrev pub answers_to : Plan → History → List ℕ
answers_to p h = answered p.config (book_of p) (made_of bay_rules p.config h) ++ codes "end\n"

-- the lines that stand in the code's lists
abbrev pub book_seen : List (Vec StepLine Global) → Book
book_seen book = map (λ (v : Vec StepLine Global). v.items) book
