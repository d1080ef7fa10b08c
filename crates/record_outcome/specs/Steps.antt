-- What a step line of a record does.
use Rattle.std.specs.Prelude.{ℕ, List, [], ◌∷◌, ◌++◌, codes, Option, None, Some, Result, Ok, Err}
use Rattle.sv_base.specs.declared.config.Config.{Config}
use Rattle.bay_model.specs.Named.{configured_model}
use Rattle.bay_model.specs.Acceptance.{Fault, QueueFull, fault}
use Rattle.bay_model.specs.Answers.{Turn, answer}
use Rattle.run_record.specs.Judging.{line_at, number_of}
use Rattle.run_record.specs.declared.fault.Kind.{Kind}
use Rattle.run_record.specs.declared.line.RecLine.{RecLine}
use Rattle.record_outcome.specs.Played.{Played, turn_at, with_turn, at_moment, past_line}
use Rattle.record_steps.specs.Forms.{shape_of}
use Rattle.record_steps.specs.Resolved.{association_of, told_of}
use Rattle.answer_text.specs.Texts.{lines_of}
use Rattle.stream_lines.specs.declared.shape.Shape.{Shape}
use Rattle.record_outcome.specs.Moves.{Move, goes, stops, playing}
use Rattle.record_outcome.specs.declared.status.Status.{Status}
use Rattle.record_outcome.specs.declared.status.Status.TheVariants as statuses
use Rattle.record_steps.specs.Told.{Told, skip, pass_to, turn, heard, refused, last}
use Rattle.record_steps.specs.declared.heard.Heard.{Heard}
use Rattle.record_steps.specs.declared.heard.Heard.TheVariants.{Tells, Makes}

-- A request that finds 16 replies waiting passes a limit. Any other step that is refused is one of an association that is open
-- already, or isn't.
abbrev pub stop_of : ℕ → Fault → Status
stop_of number (QueueFull a) = statuses.Limit 2 number
stop_of number fault = statuses.Record number 5

abbrev pub accepted : ℕ → Config → Played → Shape → Turn → Option Fault → Move
accepted number c s shape t None = goes (playing c (with_turn s t)) (lines_of c shape t.step (answer (configured_model c) s.turns t))
accepted number c s shape t (Some fault) = stops (stop_of number fault) []

-- The parts of a piece one after another, after what is answered to those before them. Where a step is refused, nothing of the line
-- is written.
abbrev pub then_on : ℕ → Config → (Played → List ℕ → Move) → Played → Shape → List ℕ → Turn → Option Fault → Move
then_on number c go s shape text t None = go (with_turn s t) (text ++ lines_of c shape t.step (answer (configured_model c) s.turns t))
then_on number c go s shape text t (Some fault) = stops (stop_of number fault) []

abbrev pub heard_on : ℕ → Config → Shape → List Heard → Played → List ℕ → Move
heard_on number c shape [] s text = goes (playing c s) text
heard_on number c shape (Tells more ∷ hs) s text = heard_on number c shape hs s (text ++ more)
heard_on number c shape (Makes actor step ∷ hs) s text =
    then_on number c (heard_on number c shape hs) s shape text (turn_at s actor.0 step) (fault (configured_model c) s.turns (turn_at s actor.0 step))

unfoldable pub played : ℕ → Config → Played → Shape → Told → Move
played number c s shape skip = goes (playing c s) []
played number c s shape (pass_to moment) = goes (playing c (at_moment s moment)) []
played number c s shape (turn actor step) = accepted number c s shape (turn_at s actor step) (fault (configured_model c) s.turns (turn_at s actor step))
played number c s shape (heard hs) = heard_on number c shape hs s []
played number c s shape (refused kind) = stops (statuses.Record number kind) []
played number c s shape last = stops statuses.Ok (codes "end\n")

-- by what the association is that a line names
abbrev pub told_at : ℕ → Config → Played → Result RecLine Kind → Move
told_at number c s (Err kind) = stops (statuses.Record number (number_of kind)) []
told_at number c s (Ok line) = played number c (past_line s line) (shape_of (s.form (association_of line))) (told_of c (s.form (association_of line)) line)

-- the line with this number, after what was applied
unfoldable pub step_at : ℕ → Config → Played → List ℕ → Move
step_at number c s line = told_at number c s (line_at line)
