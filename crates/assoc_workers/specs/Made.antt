-- The steps that an actor made in a call, in order, with their moments and what they were answered.
use Rattle.std.specs.Prelude.{◌≡◌, ℕ, List, [], ◌∷◌, Option, IfSome, ◌⊎◌, Result, Ok, Err, Some}
use Rattle.std.specs.List.{AllByRecursion}
use Rattle.sv_base.specs.declared.numbers.AssocNo.{AssocNo}
use Rattle.bay_model.specs.declared.step.Step.{Step}
use Rattle.bay_model.specs.declared.step.Step.TheVariants as steps
use Rattle.bay_model.specs.declared.answer.Answer.{Answer}
use Rattle.bay_model.specs.Answers.{History}
use Rattle.bay_model.specs.Acceptance.{Fault}
use Rattle.bay_histories.specs.Rules.{Rules}
use Rattle.bay_histories.specs.Histories.{IsEarlier, IsLegal, turn_of}
use Rattle.history_lock.specs.declared.fault.TurnFault.{TurnFault}
use Rattle.history_lock.specs.Passes.{Site, Known, IsSamePass, own, told}

pub record MadeStep : Type 0 where
  pub moment : ℕ
  pub step : Step
  pub answer : Answer

-- actor k's steps, the newest first, after those that it made before; and what they were answered
abbrev pub steps_onto : ℕ → List MadeStep → History → History
steps_onto k [] before = before
steps_onto k (m ∷ ms) before = steps_onto k ms (turn_of m.moment k m.step ∷ before)

abbrev pub answers_onto : List MadeStep → List Answer → List Answer
answers_onto [] before = before
answers_onto (m ∷ ms) before = answers_onto ms (m.answer ∷ before)

-- a pass of this history
abbrev pub IsOf : Site → Known → Type 0
IsOf h p = (p.table ≡ h.table) × (p.config ≡ h.config)

-- the pass p has become q: its own actor made these steps, and no other
pub record Moved (rules : Rules) (p : Known) (made : List MadeStep) (q : Known) : Type 0 where
  pub same : IsSamePass p q
  pub own_steps : own q ≡ steps_onto p.first made (own p)
  pub answers : told rules q ≡ answers_onto made (told rules p)
  pub later : IsEarlier p.seen q.seen
  pub legal : IsLegal rules p.config p.seen → IsLegal rules p.config q.seen

-- they have the clock's moment, where it is told
abbrev pub AreAt : Option ℕ → List MadeStep → Type 0
AreAt clock made = IfSome clock (λ n. AllByRecursion (λ (m : MadeStep). m.moment ≡ n) made)

-- a turn: an accepted one is one step, at the clock's moment, and a refused one none
abbrev pub MadeOne : Rules → Option ℕ → Step → Result (Answer × ℕ) TurnFault → Known → Known → Type 0
MadeOne rules clock step (Ok r) p q = (m : MadeStep) × Moved rules p (m ∷ []) q × (m.step ≡ step) × (m.answer ≡ r.0) × AreAt clock (m ∷ [])
MadeOne rules clock step (Err f) p q = Moved rules p [] q

-- after what the pass has seen this step of its actor is refused
abbrev pub IsRefusedAfter : Rules → Step → Known → Type 0
IsRefusedAfter rules step q = (moment : ℕ) × (f : Fault) × (rules.fault q.config q.seen (turn_of moment q.first step) ≡ Some f)

-- The association was given up: lost by this step, or no step was made, as the pass had no turn left, or as its loss is refused.
abbrev pub HasGivenUp : Rules → AssocNo → List MadeStep → Known → Type 0
HasGivenUp rules a made q = ((m : MadeStep) × (made ≡ m ∷ []) × (m.step ≡ steps.Lost a))
    ⊎ ((made ≡ []) × ((q.left ≡ 0) ⊎ IsRefusedAfter rules (steps.Lost a) q))
