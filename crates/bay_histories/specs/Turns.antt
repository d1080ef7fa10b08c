-- What a step is answered, and what it makes of the machine that makes it.
use Rattle.std.specs.Prelude.{◌≡◌, ◌∷◌, Bool, true, false, Result, Ok, Err}
use Rattle.sv_base.specs.declared.config.Config.{Config}
use Rattle.bay_model.specs.declared.answer.Answer.{Answer}
use Rattle.bay_model.specs.declared.step.Step.{Step}
use Rattle.bay_model.specs.declared.step.Step.TheVariants as steps
use Rattle.bay_model.specs.Answers.{Turn, History}
use Rattle.bay_histories.specs.declared.fault.StepFault.{StepFault}
use Rattle.bay_histories.specs.declared.fault.StepFault.TheVariants as faults
use Rattle.bay_histories.specs.Faults.{named}
use Rattle.bay_histories.specs.Rules.{Rules}

-- From old to new by a turn: an accepted one is answered as the rules have it, and new stands for the longer history;
-- a refused one has the fault that the rules name, or is out of memory where they name none, and leaves all as it was.
abbrev pub Does : {M : Type 0} → Rules → (M → Config → History → Type 0) → M → M → Turn → Result Answer StepFault → Type 0
Does rules stands old new t (Ok a) = (c : Config) (h : History) → stands old c h → (a ≡ rules.answer c h t) × stands new c (t ∷ h)
Does rules stands old new t (Err f) = (new ≡ old) × ((c : Config) (h : History) → stands old c h → named f ≡ rules.fault c h t)

-- the steps that need no memory: a write of a component, a loss, what the process does, and time that passes
abbrev pub is_lean : Step → Bool
is_lean (steps.Write a b comp v) = true
is_lean (steps.Lost a) = true
is_lean (steps.Value settings) = true
is_lean (steps.Done k good) = true
is_lean (steps.Block k flag) = true
is_lean steps.Tick = true
is_lean _ = false

-- a step that needs no memory is not refused as out of memory
abbrev pub KeepsLean : Step → Result Answer StepFault → Type 0
KeepsLean step (Ok a) = Unit {0}
KeepsLean step (Err faults.Memory) = is_lean step ≡ false
KeepsLean step (Err f) = Unit {0}

-- what the process does, and time that passes
abbrev pub is_process : Step → Bool
is_process (steps.Value settings) = true
is_process (steps.Done k good) = true
is_process (steps.Block k flag) = true
is_process steps.Tick = true
is_process _ = false

-- such a step is never refused
abbrev pub KeepsProcess : Step → Result Answer StepFault → Type 0
KeepsProcess step (Ok a) = Unit {0}
KeepsProcess step (Err f) = is_process step ≡ false
