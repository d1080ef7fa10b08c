-- What is seen in a line that is read in place.
use Rattle.std.specs.Prelude.{Result, Ok, Err}
use Rattle.run_record.specs.Seen.{line_seen}
use Rattle.run_record.specs.declared.fault.Kind.{Kind}
use Rattle.script_lines.specs.declared.line.ScriptLine.{ScriptLine}
use Rattle.script_lines.specs.declared.line.ScriptLine.TheVariants as scripts
use Rattle.script_lines.specs.declared.line.ScriptView.{ScriptView}
use Rattle.script_lines.specs.declared.line.ScriptView.TheVariants as views

abbrev pub view_seen : ScriptView → ScriptLine
view_seen (views.Begins party) = scripts.Begins party
view_seen views.Closes = scripts.Closes
view_seen (views.Step line) = scripts.Step (line_seen line)

-- the line that is seen, or the kind for which there is none
abbrev pub script_seen : Result ScriptView Kind → Result ScriptLine Kind
script_seen (Ok view) = Ok (view_seen view)
script_seen (Err kind) = Err kind
