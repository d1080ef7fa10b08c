-- Which lines of a record a script may have.
use Rattle.std.specs.Prelude.{Bool, true, false, ◌==◌, ◌&&◌}
use Rattle.sv_base.specs.declared.numbers.AssocNo.{AssocNo}
use Rattle.run_record.specs.declared.line.OpenForm.{OpenForm}
use Rattle.run_record.specs.declared.line.OpenForm.TheVariants as forms
use Rattle.run_record.specs.declared.line.RecLine.{RecLine}
use Rattle.run_record.specs.declared.line.RecLine.TheVariants as lines
use Rattle.script_lines.specs.declared.party.Party.{Party}
use Rattle.script_lines.specs.declared.party.Party.TheVariants as parties

-- a stream is no form of a script
abbrev pub is_no_stream : OpenForm → Bool
is_no_stream forms.Wire = false
is_no_stream _ = true

-- a line of association `own`, or of none
abbrev pub is_of : AssocNo → RecLine → Bool
is_of own lines.Skip = true
is_of own (lines.At moment) = true
is_of own (lines.Open a form) = (own.0 == a.0) && is_no_stream form
is_of own (lines.Write a block comp value) = own.0 == a.0
is_of own (lines.Pdu a hex) = own.0 == a.0
is_of own (lines.Take a) = own.0 == a.0
is_of own (lines.Lost a) = own.0 == a.0
is_of own _ = false

-- a line of the process, or of none
abbrev pub is_of_process : RecLine → Bool
is_of_process lines.Skip = true
is_of_process (lines.At moment) = true
is_of_process (lines.Set pairs) = true
is_of_process (lines.Done control well) = true
is_of_process (lines.Block control on) = true
is_of_process lines.Tick = true
is_of_process _ = false

abbrev pub may_have : Party → RecLine → Bool
may_have (parties.Association own) line = is_of own line
may_have parties.Process line = is_of_process line
