-- The lines of an input, one after another.
use Rattle.std.proofs.Common.{◌≡◌, ◌<◌, ℕ, suc, Bool, true, false, List, ◌∷◌, ◌++◌, refl, sym, ap, ◌∙◌}
use Rattle.std.specs.Prelude.{◌==◌, ◌&&◌, nat_lt, if◌then◌else◌}
use Rattle.std.proofs.lemmas.Bool.{lt-ltb}
use Rattle.std.proofs.lemmas.List.Splits.{slice_split_at, slice_split_none}
use Rattle.record_outcome.specs.Records.{most_lines, NoNewline, pieces, has_begun}
use Rattle.record_outcome.specs.declared.status.Status.{Status}
use Rattle.record_outcome.proofs.LineLaws.{pieces-some}
use Rattle.script_plans.specs.Moves.{Place, stops}
use Rattle.script_plans.specs.Inputs.{passed, missing, unended, ended, lines_at, line_at, refused, moved, run}
use Rattle.script_plans.proofs.LineLaws.{run-on}

-- a line, and what follows it
pub run-line : (long : Bool) (count : ℕ) (place : Place) (line more : List ℕ) → NoNewline line
    → run long count place (pieces (line ++ 10 ∷ more)) ≡ moved (line_at (suc count) place line) (λ to. run long (suc count) to (pieces more))
run-line long count place line more none =
    ap (run long count place) (slice_split_at (λ b. b == 10) line 10 more none refl) ∙ run-on long count place line (pieces more) (pieces-some more)

-- no line is left
pub run-rest : (long : Bool) (count : ℕ) (place : Place) (rest : List ℕ) → NoNewline rest → run long count place (pieces rest) ≡ refused (ended long (has_begun rest) (suc count) place)
run-rest long count place rest none = ap (run long count place) (slice_split_none (λ b. b == 10) rest none)

-- after the lines that may be read
pub over-lines : (status : Status) (number : ℕ) (place : Place) (line : List ℕ) → most_lines < number → status ≡ passed 1 number place → line_at number place line ≡ stops status
unfolding line_at
over-lines status number place line lt told = ap (λ b. if b then stops (passed 1 number place) else lines_at number place line) (lt-ltb most_lines number lt) ∙ ap stops (sym told)

-- after the last newline
pub ended-long : (status : Status) (long begun : Bool) (number : ℕ) (place : Place) → long ≡ true → status ≡ passed 3 number place → status ≡ ended long begun number place
unfolding ended
ended-long status long begun number place is told = told ∙ ap (λ l. if l then passed 3 number place else unended begun number place) (sym is)

pub ended-short : (status : Status) (long begun : Bool) (number : ℕ) (place : Place) → long ≡ false → status ≡ unended begun number place → status ≡ ended long begun number place
unfolding ended
ended-short status long begun number place is told = told ∙ ap (λ l. if l then passed 3 number place else unended begun number place) (sym is)

pub unended-over : (status : Status) (begun over : Bool) (number : ℕ) (place : Place) → over ≡ (begun && nat_lt most_lines number) → over ≡ true → status ≡ passed 1 number place → status ≡ unended begun number place
unfolding unended
unended-over status begun over number place is beyond told = told ∙ ap (λ o. if o then passed 1 number place else missing number place) (sym beyond ∙ is)

pub unended-missing : (status : Status) (begun over : Bool) (number : ℕ) (place : Place) → over ≡ (begun && nat_lt most_lines number) → over ≡ false → status ≡ missing number place → status ≡ unended begun number place
unfolding unended
unended-missing status begun over number place is within told = told ∙ ap (λ o. if o then passed 1 number place else missing number place) (sym within ∙ is)
