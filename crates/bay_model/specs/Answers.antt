-- A history with its points, and what each of its steps is answered (the steps are this profile's own).
use Rattle.std.specs.Prelude.{ℕ, List, [], ◌∷◌, length}
use Rattle.std.specs.List.{filter_map}
use Rattle.sv_base.specs.declared.value.Value.{Value}
use Rattle.bay_model.specs.declared.step.Step.{Step}
use Rattle.sv_base.specs.declared.components.Comp.{Comp}
use Rattle.bay_model.specs.declared.step.Step.TheVariants as steps
use Rattle.bay_model.specs.declared.request.Request.{Request}
use Rattle.bay_model.specs.declared.answer.Answer.{Answer}
use Rattle.bay_model.specs.declared.answer.Answer.TheVariants as answers
use Rattle.bay_model.specs.declared.answer.Output.{Output}
use Rattle.bay_model.specs.declared.answer.Output.TheVariants as outputs
use Rattle.bay_model.specs.Model.{Model}
use Rattle.bay_model.specs.Sizes.{size_of}
use Rattle.bay_model.specs.Points.{Deed, opened, lost, valued, finished, blocked, answered, nothing, Past}
use Rattle.bay_model.specs.Outcomes.{Outcome, deed_of, code_of, error_in}
use Rattle.bay_model.specs.Writes.{write_component}
use Rattle.bay_model.specs.Singles.{arrival, outcomes, after_singles, acts_in}
use Rattle.bay_model.specs.Services.{singles_of, reply, change_of}
use Rattle.bay_model.specs.Takes.{taken}

-- a step with the moment that was handed in and its actor
pub record Turn : Type 0 where
  pub moment : ℕ
  pub actor : ℕ
  pub step : Step

-- the steps so far, the newest first
abbrev pub History : Type 0
History = List Turn

-- what comes of the single reads and writes of a's request, which is step n
abbrev pub outcomes_of : Model → ℕ → ℕ → ℕ → Request → Past → List Outcome
outcomes_of c n moment a r past = outcomes c a n moment (singles_of c past r.service) past

-- its reply, with the LastApplErrors before it
abbrev pub output_for : Model → ℕ → ℕ → ℕ → Request → Past → Output
output_for c n moment a r past = outputs.Reply (filter_map error_in (outcomes_of c n moment a r past)) r.invoke (reply c past (size_of a past) r.service (outcomes_of c n moment a r past))

-- what comes of a Write step, at its moment
abbrev pub outcome_of_write : Model → ℕ → ℕ → ℕ → ℕ → Comp → Value → Past → Outcome
outcome_of_write c n moment a b comp v past = write_component c a b comp v (arrival n moment ∷ past)

-- what came of a step at its own point, which for an Ask is that of its reply; n is its number, from 0
abbrev pub deed_at : Model → ℕ → Turn → Past → Step → Deed
deed_at c n t past (steps.Open a size writer owner) = opened a.0 t.actor writer.0 size owner
deed_at c n t past (steps.Ask a r) = answered a.0 (output_for c n t.moment a.0 r past) (change_of c past r.service)
deed_at c n t past (steps.Write a b comp v) = deed_of (outcome_of_write c n t.moment a.0 b.0 comp v past)
deed_at c n t past (steps.Take a) = (taken c a.0 (arrival n t.moment ∷ past)).deed
deed_at c n t past (steps.Lost a) = lost a.0
deed_at c n t past (steps.Value settings) = valued settings
deed_at c n t past (steps.Done k good) = finished k.0 good
deed_at c n t past (steps.Block k flag) = blocked k.0 flag
deed_at c n t past steps.Tick = nothing

-- the points of the single reads and writes of an Ask
abbrev pub singles_after : Model → ℕ → Turn → Past → Step → Past
singles_after c n t past (steps.Ask a r) = after_singles c a.0 n t.moment (singles_of c past r.service) past
singles_after c n t past _ = past

-- the points after one step more
abbrev pub turned : Model → ℕ → Turn → Past → Past
turned c n t past = record { moment = t.moment; step = n; deed = deed_at c n t past t.step } ∷ singles_after c n t past t.step

-- the points of a history, the newest first
abbrev pub points : Model → History → Past
points c [] = []
points c (t ∷ h) = turned c (length h) t (points c h)

abbrev pub answer_at : Model → ℕ → Turn → Past → Step → Answer
answer_at c n t past (steps.Open a size writer owner) = answers.Opened
answer_at c n t past (steps.Ask a r) = answers.Asked (acts_in (outcomes_of c n t.moment a.0 r past))
answer_at c n t past (steps.Write a b comp v) = answers.Wrote (code_of (outcome_of_write c n t.moment a.0 b.0 comp v past))
answer_at c n t past (steps.Take a) = (taken c a.0 (arrival n t.moment ∷ past)).answer
answer_at c n t past (steps.Lost a) = answers.Went
answer_at c n t past (steps.Value settings) = answers.Went
answer_at c n t past (steps.Done k good) = answers.Went
answer_at c n t past (steps.Block k flag) = answers.Went
answer_at c n t past steps.Tick = answers.Went

-- what a step is answered after a history
abbrev pub answer : Model → History → Turn → Answer
answer c h t = answer_at c (length h) t (points c h) t.step
