-- What a step is answered, and what it makes of the bay.
use Rattle.std.specs.Prelude.{◌≡◌, suc, Result, Ok, Err}
use Rattle.bay_model.specs.declared.answer.Answer.{Answer}
use Rattle.bay_model.specs.Answers.{Turn}
use Rattle.bay_histories.specs.declared.fault.StepFault.{StepFault}
use Rattle.bay_histories.specs.Rules.{bay_rules}
use Rattle.bay_histories.specs.Turns as turns
use Rattle.bay_core.specs.State.{State}
use Rattle.bay_core.specs.Standing.{StandsFor}

-- what a turn makes of a bay and is answered
abbrev pub Does : State → State → Turn → Result Answer StepFault → Type 0
Does = turns.Does bay_rules StandsFor

-- one step more of the same bay
abbrev pub IsCounted : State → State → Result Answer StepFault → Type 0
IsCounted old new (Ok a) = (new.config ≡ old.config) × (new.steps ≡ suc old.steps)
IsCounted old new (Err f) = Unit {0}
