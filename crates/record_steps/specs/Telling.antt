-- What is told where a step stands in a slot, and the parts of a piece in a list, and the association that a line names.
use Rattle.std.specs.Prelude.{◌≡◌, ℕ, suc, List, length}
use Rattle.sv_base.specs.declared.numbers.AssocNo.{AssocNo}
use Rattle.bay_model.specs.declared.step.Step.{Step}
use Rattle.run_record.specs.Judging.{number_of}
use Rattle.run_record.specs.declared.line.RecLine.{RecLine}
use Rattle.run_record.specs.declared.line.RecLine.TheVariants as lines
use Rattle.record_steps.specs.Told as tells
use Rattle.record_steps.specs.declared.heard.Heard.{Heard}
use Rattle.record_steps.specs.declared.telling.Told.{Told}
use Rattle.record_steps.specs.declared.telling.Told.TheVariants as tolds

abbrev pub telling : Told → Step → List Heard → tells.Told
telling tolds.Nothing step heard = tells.skip
telling (tolds.At moment) step heard = tells.pass_to moment
telling (tolds.Step actor) step heard = tells.turn actor.0 step
telling tolds.Heard step heard = tells.heard heard
telling (tolds.Refused kind) step heard = tells.refused (number_of kind)
telling tolds.End step heard = tells.last

-- a line that is no piece of a stream
abbrev pub IsPlain : RecLine → Type 0
IsPlain (lines.Piece a hex) = ⊥
IsPlain _ = Unit {0}

-- the most steps of a line: of a piece one for each octet and one for its end, and a piece has two digits for each octet
abbrev pub most_steps : RecLine → ℕ
most_steps (lines.Piece a hex) = suc (length hex)
most_steps _ = 1

-- a line that names no association
abbrev pub NamesNone : RecLine → Type 0
NamesNone (lines.Open a form) = ⊥
NamesNone (lines.Write a block comp value) = ⊥
NamesNone (lines.Pdu a hex) = ⊥
NamesNone (lines.Piece a hex) = ⊥
NamesNone (lines.Take a) = ⊥
NamesNone (lines.Lost a) = ⊥
NamesNone _ = Unit {0}

-- one that names this one
abbrev pub Names : RecLine → AssocNo → Type 0
Names (lines.Open b form) a = b ≡ a
Names (lines.Write b block comp value) a = b ≡ a
Names (lines.Pdu b hex) a = b ≡ a
Names (lines.Piece b hex) a = b ≡ a
Names (lines.Take b) a = b ≡ a
Names (lines.Lost b) a = b ≡ a
Names _ a = ⊥
