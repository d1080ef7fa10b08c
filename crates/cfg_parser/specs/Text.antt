-- The lines of a text, read from the first to the last.
use Rattle.std.specs.Prelude.{ℕ, ◌==◌, ◌&&◌, Bool, true, false, List, [], ◌∷◌, Result, Ok, Err, if◌then◌else◌, length}
use Rattle.std.specs.List.{slice_split}
use Rattle.cfg_parser.specs.declared.fault.Kind.{Kind}
use Rattle.cfg_parser.specs.declared.fault.Kind.TheVariants as kinds
use Rattle.cfg_parser.specs.declared.fault.CfgFault.{CfgFault}
use Rattle.cfg_parser.specs.declared.fault.CfgFault.TheVariants as faults
use Rattle.cfg_parser.specs.declared.fault.LineFault.{LineFault}
use Rattle.cfg_parser.specs.declared.fault.LineFault.TheVariants as stops
use Rattle.cfg_lines.specs.declared.line.Line.{Line}
use Rattle.cfg_lines.specs.declared.line.Place.{Place}
use Rattle.cfg_lines.specs.declared.line.Place.TheVariants as places
use Rattle.cfg_lines.specs.Before.{number_of, place_of}
use Rattle.cfg_parser.specs.Judging.{line_at}

-- what ends with a newline, and what is left after the last one
abbrev pub pieces : List ℕ → List (List ℕ)
pieces text = slice_split (λ b. b == 10) text

-- a step, and the refusal of the line with this number
abbrev pub numbered : {A : Type 0} → ℕ → Result Line Kind → (Line → Result A CfgFault) → Result A CfgFault
numbered number (Ok line) go = go line
numbered number (Err kind) go = Err (faults.Refused number kind)

abbrev pub is_ended : Place → Bool
is_ended places.Ended = true
is_ended _ = false

-- After the last newline nothing may be left, and `end` must have been there: else the line that isn't there is refused.
abbrev pub ended_at : List Line → List ℕ → Result (List Line) CfgFault
ended_at before rest = if is_ended (place_of before) && (length rest == 0) then Ok before else Err (faults.Refused (number_of before) kinds.Order)

-- with one more line
abbrev pub next_at : List Line → List ℕ → Result (List Line) CfgFault
next_at before text = numbered (number_of before) (line_at before text) (λ line. Ok (line ∷ before))

-- the refusal of the line with this number
abbrev pub fault_at : ℕ → LineFault → CfgFault
fault_at number (stops.Refused kind) = faults.Refused number kind
fault_at number stops.Memory = faults.Memory

-- all lines, the last first, or the first refusal
abbrev pub told_at : List Line → List (List ℕ) → Result (List Line) CfgFault
told_at before [] = ended_at before []
told_at before (rest ∷ []) = ended_at before rest
told_at before (text ∷ next ∷ more) = numbered (number_of before) (line_at before text) (λ line. told_at (line ∷ before) (next ∷ more))

unfoldable pub lines_at : List ℕ → Result (List Line) CfgFault
lines_at text = told_at [] (pieces text)
