-- What a line among scripts does.
use Rattle.std.specs.Prelude.{ℕ, ◌+◌, ◌==◌, ◌||◌, List, [], is_some, Option, None, Some, Result, Ok, Err, if◌then◌else◌}
use Rattle.sv_base.specs.declared.config.Config.{Config}
use Rattle.bay_model.specs.declared.step.Step.{Step}
use Rattle.bay_model.specs.Points.{least_moment}
use Rattle.run_record.specs.Judging.{number_of}
use Rattle.run_record.specs.declared.fault.Kind.{Kind}
use Rattle.run_record.specs.declared.line.RecLine.{RecLine}
use Rattle.run_record.specs.declared.line.RecLine.TheVariants as lines
use Rattle.record_steps.specs.Forms.{shut}
use Rattle.record_steps.specs.Resolved.{told_of}
use Rattle.record_steps.specs.Told.{Told, skip, pass_to, turn, heard, refused, last}
use Rattle.record_outcome.specs.declared.status.Status.TheVariants as statuses
use Rattle.script_lines.specs.Lines.{script_line_at}
use Rattle.script_lines.specs.Parties.{may_have}
use Rattle.script_lines.specs.declared.party.Party.{Party}
use Rattle.script_lines.specs.declared.party.Party.TheVariants as parties
use Rattle.script_lines.specs.declared.line.ScriptLine.{ScriptLine}
use Rattle.script_lines.specs.declared.line.ScriptLine.TheVariants as scripts
use Rattle.script_plans.specs.Forms.{form_in, form_passed}
use Rattle.script_plans.specs.Plans.{Plan, script_of, with_script, with_line}
use Rattle.script_plans.specs.Moves.{Move, goes, stops, ends, between, inside}
use Rattle.script_plans.specs.declared.form.ScriptForm.{ScriptForm}
use Rattle.script_plans.specs.declared.form.ScriptForm.TheVariants as forms
use Rattle.script_plans.specs.declared.opened.Opened.{Opened}

-- ---- where a script begins

-- the most scripts
abbrev pub most_scripts : ℕ
most_scripts = 16

-- an association has its own number; scripts of the process have 17, 18 and so on, in their order
abbrev pub actor_for : Plan → Party → ℕ
actor_for p (parties.Association a) = a.0
actor_for p parties.Process = 17 + p.processes

abbrev pub processes_with : Plan → Party → ℕ
processes_with p (parties.Association a) = p.processes
processes_with p parties.Process = p.processes + 1

-- one script more has begun
abbrev pub counted : Plan → Party → Plan
counted p party = record { config = p.config; text = p.text; scripts = p.scripts; count = p.count + 1; processes = processes_with p party }

-- no line of it is read; its association isn't open
abbrev pub opened : Plan → Party → Opened
opened p party = record { party = party; actor = actor_for p party; form = forms.Shut; moment = least_moment; script = record { place = p.count; lines = []; steps = [] } }

-- a script of an association that has one already is refused, and so is one too many
abbrev pub begins : ℕ → Plan → Party → Move
begins number p party =
    if p.count == most_scripts || is_some (script_of p (actor_for p party)) then stops (statuses.Record number 5) else goes (inside (counted p party) (opened p party))

-- ---- a line that may not stand where it stands

-- it is refused for that; but where it names what isn't there, that comes first
abbrev pub strange_as : Told → ℕ
strange_as (refused kind) = if kind == 3 then 3 else 5
strange_as _ = 5

abbrev pub strange : Config → RecLine → ℕ
strange c line = strange_as (told_of c shut line)

-- ---- between scripts

-- the last line of the input stands after a script at least
abbrev pub ended : ℕ → Plan → Move
ended number p = if p.count == 0 then stops (statuses.Record number 5) else ends p

abbrev pub between_step : ℕ → Plan → RecLine → Move
between_step number p lines.Skip = goes (between p)
between_step number p lines.End = ended number p
between_step number p line = stops (statuses.Record number (strange p.config line))

abbrev pub between_line : ℕ → Plan → ScriptLine → Move
between_line number p (scripts.Begins party) = begins number p party
between_line number p scripts.Closes = stops (statuses.Record number 5)
between_line number p (scripts.Step line) = between_step number p line

abbrev pub between_as : ℕ → Plan → Result ScriptLine Kind → Move
between_as number p (Err kind) = stops (statuses.Record number (number_of kind))
between_as number p (Ok line) = between_line number p line

unfoldable pub between_at : ℕ → Plan → List ℕ → Move
between_at number p text = between_as number p (script_line_at text)

-- ---- in a script

-- at another moment
abbrev pub at_moment : Opened → ℕ → Opened
at_moment o moment = record { party = o.party; actor = o.actor; form = o.form; moment = moment; script = o.script }

-- after a line that makes one, and makes its association of this form
abbrev pub taken : Opened → ℕ → List ℕ → ScriptForm → Step → Opened
taken o number text form step = record {
  party = o.party;
  actor = o.actor;
  form = form;
  moment = o.moment;
  script = with_line o.script (record { number = number; text = text; form = o.form; moment = o.moment }) (record { moment = o.moment; step = step });
}

-- by what it says, where its association is what the script's lines before it made of it; it has no stream
abbrev pub told_in : ℕ → Plan → Opened → List ℕ → RecLine → Told → Move
told_in number p o text line skip = goes (inside p o)
told_in number p o text line (pass_to moment) = goes (inside p (at_moment o moment))
told_in number p o text line (turn actor step) = goes (inside p (taken o number text (form_passed line o.form) step))
told_in number p o text line (heard parts) = stops (statuses.Record number 5)
told_in number p o text line (refused kind) = stops (statuses.Record number kind)
told_in number p o text line last = stops (statuses.Record number 5)

abbrev pub inside_step : ℕ → Plan → Opened → List ℕ → RecLine → Move
inside_step number p o text line =
    if may_have o.party line then told_in number p o text line (told_of p.config (form_in o.form) line) else stops (statuses.Record number (strange p.config line))

abbrev pub inside_line : ℕ → Plan → Opened → List ℕ → ScriptLine → Move
inside_line number p o text (scripts.Begins party) = stops (statuses.Record number 5)
inside_line number p o text scripts.Closes = goes (between (with_script p o.actor o.script))
inside_line number p o text (scripts.Step line) = inside_step number p o text line

abbrev pub inside_as : ℕ → Plan → Opened → List ℕ → Result ScriptLine Kind → Move
inside_as number p o text (Err kind) = stops (statuses.Record number (number_of kind))
inside_as number p o text (Ok line) = inside_line number p o text line

-- between scripts or in one
abbrev pub among_line : ℕ → Plan → Option Opened → List ℕ → ScriptLine → Move
among_line number p None text line = between_line number p line
among_line number p (Some o) text line = inside_line number p o text line

unfoldable pub inside_at : ℕ → Plan → Opened → List ℕ → Move
inside_at number p o text = inside_as number p o text (script_line_at text)
