-- Histories of accepted steps, the newest step first: the steps of one actor, and histories that go on from others.
use Rattle.std.specs.Prelude.{ℕ, ⊤, ◌≡◌, ◌<◌, ◌≤◌, ◌==◌, List, [], ◌∷◌, ◌++◌, length, cond, None}
use Rattle.sv_base.specs.declared.config.Config.{Config}
use Rattle.bay_model.specs.declared.answer.Answer.{Answer}
use Rattle.bay_model.specs.declared.step.Step.{Step}
use Rattle.bay_model.specs.declared.step.Step.TheVariants as steps
use Rattle.bay_model.specs.Answers.{Turn, History}
use Rattle.bay_histories.specs.declared.fault.StepFault.{StepFault}
use Rattle.bay_histories.specs.Faults.{named}
use Rattle.bay_histories.specs.Rules.{Rules}

-- an actor's step at a moment
abbrev pub turn_of : ℕ → ℕ → Step → Turn
turn_of moment actor step = record { moment = moment; actor = actor; step = step }

-- a turn that nobody made
abbrev pub nothing : Turn
nothing = turn_of 0 0 steps.Tick

-- the second history goes on from the first
abbrev pub IsEarlier : History → History → Type 0
IsEarlier h log = (since : History) × (since ++ h ≡ log)

-- the steps of actor k
abbrev pub by : ℕ → History → History
by k [] = []
by k (t ∷ h) = cond (t.actor == k) (t ∷ by k h) (by k h)

-- what actor k's steps were answered, the newest first
abbrev pub answers_of : Rules → Config → ℕ → History → List Answer
answers_of rules c k [] = []
answers_of rules c k (t ∷ h) = cond (t.actor == k) (rules.answer c h t ∷ answers_of rules c k h) (answers_of rules c k h)

-- the places of actor k's steps, counted from 0, the newest first
abbrev pub places_of : ℕ → History → List ℕ
places_of k [] = []
places_of k (t ∷ h) = cond (t.actor == k) (length h ∷ places_of k h) (places_of k h)

-- each step of the history was accepted after those before it
abbrev pub IsLegal : Rules → Config → History → Type 0
IsLegal rules c [] = ⊤
IsLegal rules c (t ∷ h) = IsLegal rules c h × (rules.fault c h t ≡ None)

-- why a step is refused after a history; out of memory is no fault of the step
abbrev pub IsRefused : Rules → Config → History → Turn → StepFault → Type 0
IsRefused rules c h t f = named f ≡ rules.fault c h t

-- a shuffle of lists of steps: those of each actor below n are exactly its list, in order, and there is no other step
abbrev pub IsShuffle : ℕ → (ℕ → History) → History → Type 0
IsShuffle n lists h = ((k : ℕ) → k < n → by k h ≡ lists k) × ((k : ℕ) → n ≤ k → by k h ≡ [])
