-- What the association of a script is, as of a record, and after a line of its script.
use Rattle.stream_lines.specs.Shapes.{IsShape}
use Rattle.record_steps.specs.Forms.{Form, shut, direct, mms, shape_of}
use Rattle.run_record.specs.declared.line.OpenForm.{OpenForm}
use Rattle.run_record.specs.declared.line.OpenForm.TheVariants as opens
use Rattle.run_record.specs.declared.line.RecLine.{RecLine}
use Rattle.run_record.specs.declared.line.RecLine.TheVariants as lines
use Rattle.script_plans.specs.declared.form.ScriptForm.{ScriptForm}
use Rattle.script_plans.specs.declared.form.ScriptForm.TheVariants as kept

abbrev pub form_in : ScriptForm → Form
form_in kept.Shut = shut
form_in kept.Direct = direct
form_in (kept.Mms size) = mms size

-- no script opens a stream
abbrev pub opened_so : OpenForm → ScriptForm → ScriptForm
opened_so opens.Direct was = kept.Direct
opened_so (opens.Mms size) was = kept.Mms size
opened_so opens.Wire was = was

abbrev pub form_passed : RecLine → ScriptForm → ScriptForm
form_passed (lines.Open a asked) was = opened_so asked was
form_passed (lines.Lost a) was = kept.Shut
form_passed _ was = was

-- PDUs have a size of 1024 to 65000 octets
abbrev pub IsFit : ScriptForm → Type 0
IsFit form = IsShape (shape_of (form_in form))
