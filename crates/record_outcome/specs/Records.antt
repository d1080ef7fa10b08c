-- A record: its lines one after another, the status where they end, and the answers.
use Rattle.std.specs.Prelude.{◌≡◌, ℕ, suc, ◌+◌, ◌==◌, nat_lt, ◌&&◌, not, Bool, false, List, [], ◌∷◌, ◌++◌, length, take, All, Result, Err, if◌then◌else◌}
use Rattle.std.specs.List.{slice_split}
use Rattle.sv_base.specs.declared.config.Config.{Config}
use Rattle.cfg_parser.specs.Kinds.{number_of}
use Rattle.cfg_parser.specs.Looking.{config_at}
use Rattle.cfg_parser.specs.declared.fault.CfgFault.{CfgFault}
use Rattle.cfg_parser.specs.declared.fault.CfgFault.TheVariants as faults
use Rattle.record_outcome.specs.Moves.{Place, Move, goes, stops, opening, configuring, playing}
use Rattle.record_outcome.specs.Openings.{opening_at, configuring_at}
use Rattle.record_outcome.specs.Steps.{step_at}
use Rattle.record_outcome.specs.declared.status.Status.{Status}
use Rattle.record_outcome.specs.declared.status.Status.TheVariants as statuses

-- the most octets and the most lines of a record
abbrev pub limit : ℕ
limit = 67108864

abbrev pub most_lines : ℕ
most_lines = 1000000

-- there is no newline among the octets
abbrev pub NoNewline : List ℕ → Type 0
NoNewline octets = All (λ b. (b == 10) ≡ false) octets

-- what ends with a newline, and what is left after the last one
abbrev pub pieces : List ℕ → List (List ℕ)
pieces octets = slice_split (λ b. b == 10) octets

-- a configuration that isn't whole is refused at its first refused line, which is the one after the last at the latest
abbrev pub refused_before : ℕ → ℕ → Status → Result Config CfgFault → Status
refused_before number before status (Err (faults.Refused line kind)) = if before + line == number then status else statuses.Config (before + line) (number_of kind)
refused_before number before status _ = status

-- the status where the line with this number passes a limit
abbrev pub passed : ℕ → ℕ → Place → Status
passed which number (configuring before text) = refused_before number before (statuses.Limit which number) (config_at text)
passed which number place = statuses.Limit which number

-- the status where the line with this number isn't there
abbrev pub missing : ℕ → Place → Status
missing number (configuring before text) = refused_before number before (statuses.Config number 2) (config_at text)
missing number place = statuses.Record number 7

-- an octet of a line is there
abbrev pub has_begun : List ℕ → Bool
has_begun rest = not (length rest == 0)

-- After the last newline: where the line with this number has begun and is one too many, the record passes the limit of lines; else
-- the line isn't there.
unfoldable pub unended : Bool → ℕ → Place → Status
unended begun number place = if begun && nat_lt most_lines number then passed 1 number place else missing number place

-- first of all it may pass the limit of octets in that line
unfoldable pub ended : Bool → Bool → ℕ → Place → Status
ended long begun number place = if long then passed 3 number place else unended begun number place

abbrev pub lines_at : ℕ → Place → List ℕ → Move
lines_at number opening line = opening_at number line
lines_at number (configuring before text) line = configuring_at before text line
lines_at number (playing c s) line = step_at number c s line

-- what the line with this number does
unfoldable pub line_at : ℕ → Place → List ℕ → Move
line_at number place line = if nat_lt most_lines number then stops (passed 1 number place) [] else lines_at number place line

-- the status of a record, and the answers to its lines
pub record Outcome : Type 0 where
  pub status : Status
  pub text : List ℕ

abbrev pub behind : List ℕ → Outcome → Outcome
behind text o = record { status = o.status; text = text ++ o.text }

-- what a line does, and what follows it
abbrev pub moved : Move → (Place → Outcome) → Outcome
moved (goes to text) on = behind text (on to)
moved (stops status text) on = record { status = status; text = text }

-- after n lines; whether the record passes the limit of octets counts only where no line is left
abbrev pub run : Bool → ℕ → Place → List (List ℕ) → Outcome
run long count place [] = record { status = ended long false (suc count) place; text = [] }
run long count place (rest ∷ []) = record { status = ended long (has_begun rest) (suc count) place; text = [] }
run long count place (line ∷ next ∷ more) = moved (line_at (suc count) place line) (λ to. run long (suc count) to (next ∷ more))

-- of a whole record
unfoldable pub outcome : List ℕ → Outcome
outcome octets = run (nat_lt limit (length octets)) 0 opening (pieces (take limit octets))
