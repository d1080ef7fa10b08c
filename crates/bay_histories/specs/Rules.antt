-- What the steps of a machine are answered after a history of accepted steps, and why one is refused.
use Rattle.std.specs.Prelude.{Option}
use Rattle.sv_base.specs.declared.config.Config.{Config}
use Rattle.bay_model.specs.declared.answer.Answer.{Answer}
use Rattle.bay_model.specs.Named.{configured_model}
use Rattle.bay_model.specs.Answers.{Turn, History}
use Rattle.bay_model.specs.Answers as answers
use Rattle.bay_model.specs.Acceptance.{Fault}
use Rattle.bay_model.specs.Acceptance as acceptance

-- by a configuration, the history before the step, and the step: its answer; and its fault, where it has one
pub record Rules : Type 0 where
  pub answer : Config → History → Turn → Answer
  pub fault : Config → History → Turn → Option Fault

-- a bay answers and refuses by the model of its configuration
abbrev pub bay_rules : Rules
bay_rules = record { answer = λ c. answers.answer (configured_model c); fault = λ c. acceptance.fault (configured_model c) }
