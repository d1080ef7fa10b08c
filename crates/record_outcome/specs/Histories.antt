-- The configuration and the history of a record, from its lines alone: what they say, not how they are read. All of it is
-- defined for the lines before any line too. Where lines are looked back on, the newest is the first.
use Rattle.std.specs.Prelude.{ℕ, ◌==◌, List, [], ◌∷◌, ◌++◌, map, codes, Option, None, Some, Result, Ok, Err, if◌then◌else◌}
use Rattle.std.specs.List.{slice_split, flat_map}
use Rattle.std.specs.Option.{option_map, option_and_then}
use Rattle.std.specs.Str.{bytes_eq}
use Rattle.sv_base.specs.declared.config.Config.{Config}
use Rattle.bay_model.specs.Points.{least_moment}
use Rattle.bay_model.specs.Answers.{Turn}
use Rattle.stream_lines.specs.declared.shape.Shape.{Shape}
use Rattle.text_words.specs.Octets.{is_skipped}
use Rattle.cfg_parser.specs.Looking.{config_at}
use Rattle.cfg_parser.specs.declared.fault.CfgFault.{CfgFault}
use Rattle.run_record.specs.Judging.{line_at, number_of}
use Rattle.run_record.specs.declared.fault.Kind.{Kind}
use Rattle.run_record.specs.declared.line.RecLine.{RecLine}
use Rattle.record_steps.specs.Forms.{Form, shut, shape_of, form_behind}
use Rattle.record_steps.specs.Resolved.{association_of, told_of}
use Rattle.record_steps.specs.Told.{Told, pass_to, turn, heard, refused}
use Rattle.record_steps.specs.declared.heard.Heard.{Heard}
use Rattle.record_steps.specs.declared.heard.Heard.TheVariants.{Tells, Makes}

-- all pieces but the last, after which there is no newline
abbrev pub ended_pieces : List (List ℕ) → List (List ℕ)
ended_pieces [] = []
ended_pieces (piece ∷ []) = []
ended_pieces (piece ∷ next ∷ more) = piece ∷ ended_pieces (next ∷ more)

-- the lines of a record, each ended by a newline
abbrev pub lines_of : List ℕ → List (List ℕ)
lines_of octets = ended_pieces (slice_split (λ b. b == 10) octets)

-- those after the first that is neither empty nor a remark, which is `record 1`
abbrev pub behind_heading : List (List ℕ) → List (List ℕ)
behind_heading [] = []
behind_heading (line ∷ more) = if is_skipped line then behind_heading more else more

-- the lines up to the first that is `end`, with it, and those after it
pub record Parted : Type 0 where
  pub configuration : List (List ℕ)
  pub steps : List (List ℕ)

abbrev pub with_line : List ℕ → Parted → Parted
with_line line p = record { configuration = line ∷ p.configuration; steps = p.steps }

-- none where there is no such line
abbrev pub parted : List (List ℕ) → Option Parted
parted [] = None
parted (line ∷ more) = if bytes_eq line (codes "end") then Some (record { configuration = line ∷ []; steps = more }) else option_map (with_line line) (parted more)

-- lines with their newlines
abbrev pub octets_of : List (List ℕ) → List ℕ
octets_of ls = flat_map (λ line. line ++ 10 ∷ []) ls

-- what association a is after lines: a line that is refused leaves it as it was
abbrev pub form_after : ℕ → Result RecLine Kind → Form → Form
form_after a (Ok line) was = form_behind a line was
form_after a (Err kind) was = was

abbrev pub form_at : ℕ → List (List ℕ) → Form
form_at a [] = shut
form_at a (line ∷ before) = form_after a (line_at line) (form_at a before)

-- what the association that a line names is before it
abbrev pub form_of : List (List ℕ) → Result RecLine Kind → Form
form_of before (Ok line) = form_at (association_of line) before
form_of before (Err kind) = shut

-- what a line says, after others
abbrev pub said_in : Config → Form → Result RecLine Kind → Told
said_in c form (Ok line) = told_of c form line
said_in c form (Err kind) = refused (number_of kind)

abbrev pub said : Config → List (List ℕ) → List ℕ → Told
said c before line = said_in c (form_of before (line_at line)) (line_at line)

-- the moment of the next step: that of the newest `at` line
abbrev pub moment_after : Told → ℕ → ℕ
moment_after (pass_to moment) was = moment
moment_after _ was = was

abbrev pub moment_of : Config → List (List ℕ) → ℕ
moment_of c [] = least_moment
moment_of c (line ∷ before) = moment_after (said c before line) (moment_of c before)

-- a part of what a line comes to: a step, which is answered in this shape, or text that a stack answers of itself
pub data Part : Type 0 where
  stepped : Turn → Shape → Part
  written : List ℕ → Part

-- a list, turned around, in front of another
abbrev pub onto : {A : Type 0} → List A → List A → List A
onto before [] = before
onto before (x ∷ xs) = onto (x ∷ before) xs

abbrev pub part_of : ℕ → Shape → Heard → Part
part_of moment shape (Tells text) = written text
part_of moment shape (Makes actor step) = stepped (record { moment = moment; actor = actor.0; step = step }) shape

-- the parts of a line, the newest first, where its association is of this form
abbrev pub parts_in : ℕ → Form → Told → List Part
parts_in moment form (turn actor step) = stepped (record { moment = moment; actor = actor; step = step }) (shape_of form) ∷ []
parts_in moment form (heard hs) = onto [] (map (part_of moment (shape_of form)) hs)
parts_in moment form _ = []

-- what each line comes to: nothing, or steps at the moment of the newest `at` line before it, and text
abbrev pub steps_of : Config → List (List ℕ) → List (List Part)
steps_of c [] = []
steps_of c (line ∷ before) = parts_in (moment_of c before) (form_of before (line_at line)) (said c before line) ∷ steps_of c before

-- a configuration, the lines of the steps, the newest of them first, and what they come to
pub record Recorded : Type 0 where
  pub config : Config
  pub lines : List (List ℕ)
  pub steps : List (List Part)

abbrev pub recorded : Result Config CfgFault → List (List ℕ) → Option Recorded
recorded (Ok c) steps = Some (record { config = c; lines = onto [] steps; steps = steps_of c (onto [] steps) })
recorded (Err fault) steps = None

-- of the lines of a record, if its configuration is whole
abbrev pub history_of : List (List ℕ) → Option Recorded
history_of ls = option_and_then (λ (p : Parted). recorded (config_at (octets_of p.configuration)) p.steps) (parted (behind_heading ls))
