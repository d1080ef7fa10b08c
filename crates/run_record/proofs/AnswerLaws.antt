-- What is judged is what is answered.
use Rattle.std.proofs.Common.{ℕ, List}
use Rattle.std.specs.Prelude.{Result, Ok, Err}
use Rattle.run_record.specs.Judging.{Gives, line_at}
use Rattle.run_record.specs.Answers.{Answers}
use Rattle.run_record.specs.declared.fault.Kind.TheVariants as kinds
use Rattle.run_record.specs.declared.fault.RecFault.{RecFault}
use Rattle.run_record.specs.declared.fault.RecFault.TheVariants as faults
use Rattle.run_record.specs.declared.line.RecLine.{RecLine}
use Rattle.run_record.proofs.ToldLaws.{line-told}
use Rattle.run_record.proofs.RefusedLaws.{long-told, word-told, number-told, other-told}

pub answered : (text : List ℕ) (answer : Result RecLine RecFault) → Gives answer (line_at text) → Answers text answer
answered text (Ok line) is = line-told text line is
answered text (Err (faults.Refused kinds.Long)) is = long-told text is
answered text (Err (faults.Refused kinds.Word)) is = word-told text is
answered text (Err (faults.Refused kinds.Number)) is = number-told text is
answered text (Err (faults.Refused kind)) is = other-told text kind (λ e. absurd cc e) (λ e. absurd cc e) (λ e. absurd cc e) is
answered text (Err faults.Memory) is = tt
