-- One take of a side that writes, and what it writes of it.
use Rattle.std.specs.Prelude.{◌≡◌, ◌≢◌, ◌≤◌, ℕ, List, [], ◌∷◌, Option, Result, Ok, Err, length, take, ◌⊎◌}
use Rattle.std.specs.Io.KnownBytes.{Appends}
use Rattle.sv_base.specs.declared.config.Config.{Config}
use Rattle.sv_base.specs.declared.numbers.AssocNo.{AssocNo}
use Rattle.bay_model.specs.declared.step.Step.TheVariants as steps
use Rattle.bay_model.specs.declared.answer.Answer.{Answer}
use Rattle.bay_model.specs.declared.answer.Answer.TheVariants as answers
use Rattle.bay_model.specs.declared.answer.Output.{Output}
use Rattle.osi_stack.specs.declared.events.Line.{Line}
use Rattle.bay_histories.specs.Rules.{Rules}
use Rattle.bay_histories.specs.declared.fault.StepFault.TheVariants as faults
use Rattle.history_lock.specs.declared.fault.TurnFault.{TurnFault}
use Rattle.history_lock.specs.declared.fault.TurnFault.TheVariants as turns
use Rattle.history_lock.specs.Passes.{Known}
use Rattle.assoc_workers.specs.declared.ends.WriteEnd.{WriteEnd}
use Rattle.assoc_workers.specs.declared.ends.WriteEnd.TheVariants as ends
use Rattle.assoc_workers.specs.declared.taking.Went.{Went}
use Rattle.assoc_workers.specs.declared.taking.Went.TheVariants as wents
use Rattle.assoc_workers.specs.Made.{MadeStep, Moved, AreAt}
use Rattle.assoc_workers.specs.Writing.{octets_of, octets_given, AreTakes, HasWritten}

-- a front of the octets of an output that was taken is written
abbrev pub IsCut : Config → Line → Answer → Option (List ℕ) → Option (List ℕ) → Type 0
IsCut c line answer old new = (output : Output) × (answer ≡ answers.Taken output) × (n : ℕ) × (n ≤ length (octets_of c line output))
    × Appends old new (take n (octets_of c line output))

-- what is written of an answer to a take, by what comes of it
abbrev pub IsAnswerWritten : Config → Line → Answer → Result Went WriteEnd → Option (List ℕ) → Option (List ℕ) → Type 0
IsAnswerWritten c line answer (Ok wents.Closed) old new = (answer ≡ answers.Closed) × Appends old new []
IsAnswerWritten c line answer (Ok went) old new = (answer ≢ answers.Closed) × Appends old new (octets_given c line answer)
IsAnswerWritten c line answer (Err ends.WriteFault) old new = IsCut c line answer old new
IsAnswerWritten c line answer (Err ends.Memory) old new = IsCut c line answer old new
IsAnswerWritten c line answer (Err end) old new = ⊥

-- a take was accepted, and what it was answered is written
abbrev pub TookOne : Rules → Config → AssocNo → Line → Option ℕ → Result Went WriteEnd → Known → Known → Option (List ℕ) → Option (List ℕ) → Type 0
TookOne rules c a line clock result p q old new = (m : MadeStep) × Moved rules p (m ∷ []) q × (m.step ≡ steps.Take a) × AreAt clock (m ∷ [])
    × IsAnswerWritten c line m.answer result old new

-- how a side ends whose take was refused
abbrev pub IsRefusedAs : TurnFault → WriteEnd → Type 0
IsRefusedAs turns.Ended end = end ≡ ends.Ended
IsRefusedAs (turns.Step faults.Memory) end = end ≡ ends.Memory
IsRefusedAs (turns.Step f) end = end ≡ ends.Foreign

-- a take was refused, and nothing is written
abbrev pub IsEndOfRefusal : Result Went WriteEnd → Type 0
IsEndOfRefusal (Err end) = (fault : TurnFault) × IsRefusedAs fault end
IsEndOfRefusal (Ok went) = ⊥

abbrev pub TookNone : Rules → Result Went WriteEnd → Known → Known → Option (List ℕ) → Option (List ℕ) → Type 0
TookNone rules result p q old new = Moved rules p [] q × Appends old new [] × IsEndOfRefusal result

abbrev pub TakesOne : Rules → Config → AssocNo → Line → Option ℕ → Result Went WriteEnd → Known → Known → Option (List ℕ) → Option (List ℕ) → Type 0
TakesOne rules c a line clock result p q old new = TookOne rules c a line clock result p q old new ⊎ TookNone rules result p q old new

-- the pass p has become q by takes, and what they were given is written in order
pub record Takes (rules : Rules) (c : Config) (a : AssocNo) (line : Line) (clock : Option ℕ) (end : WriteEnd) (p q : Known) (old new : Option (List ℕ)) : Type 0 where
  pub takes : List MadeStep
  pub moved : Moved rules p takes q
  pub are_takes : AreTakes a takes
  pub written : HasWritten c line end takes old new
  pub moments : AreAt clock takes
