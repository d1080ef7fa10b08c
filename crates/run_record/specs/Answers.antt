-- What is answered to a text.
use Rattle.std.specs.Prelude.{ℕ, List, Result, Ok, Err}
use Rattle.run_record.specs.Grammar.{Spells}
use Rattle.run_record.specs.Refused.{IsLong, IsUnformed, IsUnnumbered}
use Rattle.run_record.specs.declared.fault.Kind.TheVariants as kinds
use Rattle.run_record.specs.declared.fault.RecFault.{RecFault}
use Rattle.run_record.specs.declared.fault.RecFault.TheVariants as faults
use Rattle.run_record.specs.declared.line.RecLine.{RecLine}

-- The line that the text spells, or the kind for which there is a cause; of each text one of these holds. Of out of memory
-- nothing is said, and the other kinds are never answered.
abbrev pub Answers : List ℕ → Result RecLine RecFault → Type 0
Answers text (Ok line) = Spells text line
Answers text (Err (faults.Refused kinds.Long)) = IsLong text
Answers text (Err (faults.Refused kinds.Word)) = IsUnformed text
Answers text (Err (faults.Refused kinds.Number)) = IsUnnumbered text
Answers text (Err (faults.Refused kind)) = ⊥
Answers text (Err faults.Memory) = Unit {0}
