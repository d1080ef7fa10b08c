-- A rehearsal's input: its lines one after another, and what they come to.
use Rattle.std.specs.Prelude.{ℕ, suc, nat_lt, ◌&&◌, Bool, false, List, [], ◌∷◌, length, take, if◌then◌else◌}
use Rattle.cfg_parser.specs.Looking.{config_at}
use Rattle.record_outcome.specs.Records.{limit, most_lines, pieces, refused_before, has_begun}
use Rattle.record_outcome.specs.declared.status.Status.{Status}
use Rattle.record_outcome.specs.declared.status.Status.TheVariants as statuses
use Rattle.script_plans.specs.Plans.{Plan}
use Rattle.script_plans.specs.Moves.{Place, opening, configuring, between, inside, Move, goes, stops, ends}
use Rattle.script_plans.specs.Openings.{opening_at, configuring_at}
use Rattle.script_plans.specs.Scripting.{between_at, inside_at}

-- the status where the line with this number passes a limit: of lines, 1, or of octets, 3
abbrev pub passed : ℕ → ℕ → Place → Status
passed which number (configuring before text) = refused_before number before (statuses.Limit which number) (config_at text)
passed which number place = statuses.Limit which number

-- the status where the line with this number isn't there
abbrev pub missing : ℕ → Place → Status
missing number (configuring before text) = refused_before number before (statuses.Config number 2) (config_at text)
missing number place = statuses.Record number 7

-- After the last newline: where the line with this number has begun and is one too many, the input passes the limit of lines; else
-- the line isn't there.
unfoldable pub unended : Bool → ℕ → Place → Status
unended begun number place = if begun && nat_lt most_lines number then passed 1 number place else missing number place

-- first of all it may pass the limit of octets in that line
unfoldable pub ended : Bool → Bool → ℕ → Place → Status
ended long begun number place = if long then passed 3 number place else unended begun number place

abbrev pub lines_at : ℕ → Place → List ℕ → Move
lines_at number opening line = opening_at number line
lines_at number (configuring before text) line = configuring_at before text line
lines_at number (between p) line = between_at number p line
lines_at number (inside p o) line = inside_at number p o line

-- what the line with this number does
unfoldable pub line_at : ℕ → Place → List ℕ → Move
line_at number place line = if nat_lt most_lines number then stops (passed 1 number place) else lines_at number place line

-- the input is refused with a status, or it is a plan
pub data Outcome : Type 0 where
  refused : Status → Outcome
  ready : Plan → Outcome

-- what a line does, and what follows it; what stands after the last line is disregarded
abbrev pub moved : Move → (Place → Outcome) → Outcome
moved (goes to) on = on to
moved (stops status) on = refused status
moved (ends p) on = ready p

-- after n lines; whether the input passes the limit of octets counts only where no line is left
abbrev pub run : Bool → ℕ → Place → List (List ℕ) → Outcome
run long count place [] = refused (ended long false (suc count) place)
run long count place (rest ∷ []) = refused (ended long (has_begun rest) (suc count) place)
run long count place (line ∷ next ∷ more) = moved (line_at (suc count) place line) (λ to. run long (suc count) to (next ∷ more))

-- of a whole input
unfoldable pub outcome : List ℕ → Outcome
outcome octets = run (nat_lt limit (length octets)) 0 opening (pieces (take limit octets))
