-- What waits for an association, by what was put for it and how many of that Takes gave (that outputs are taken, and their
-- order, are this profile's own).
use Rattle.std.specs.Prelude.{◌≡◌, ◌≤◌, ℕ, suc, true, [], ◌∷◌, drop, length, slice_get, Some, is_some, if◌then◌else◌}
use Rattle.sv_base.specs.declared.numbers.AssocNo.{AssocNo}
use Rattle.bay_model.specs.declared.answer.Answer.TheVariants as answers
use Rattle.bay_model.specs.declared.step.Step.TheVariants as steps
use Rattle.bay_model.specs.Model.{Model}
use Rattle.bay_model.specs.Points.{Past}
use Rattle.bay_model.specs.Associations.{ends}
use Rattle.bay_model.specs.Waiting.{Waiting, put, waiting, waiting_replies, is_start, is_giving}
use Rattle.bay_model.specs.Outputs.{output_of}
use Rattle.bay_model.specs.Singles.{arrival}
use Rattle.bay_model.specs.Answers.{Turn, History, points, answer}
use Rattle.bay_model.specs.Acceptance.{IsHistory}

-- how many outputs Takes have given to a since it was opened or lost
abbrev pub given_to : ℕ → Past → ℕ
given_to a [] = 0
given_to a (p ∷ before) = if is_start a p.deed then 0 else (if is_giving a p.deed then suc (given_to a before) else given_to a before)

-- what waits for a is what was put for it since it was opened, less as many of the oldest as Takes have given
abbrev pub WaitsAreTheRest : Type 0
WaitsAreTheRest = (c : Model) (h : History) (a : ℕ) → waiting c a (points c h) ≡ drop (given_to a (points c h)) (put c a (points c h))

-- Takes give no more than was put
abbrev pub GivenAreFew : Type 0
GivenAreFew = (c : Model) (h : History) (a : ℕ) → given_to a (points c h) ≤ length (put c a (points c h))

-- an actor's Take of a
abbrev pub take_of : ℕ → ℕ → AssocNo → Turn
take_of moment actor a = record { moment = moment; actor = actor; step = steps.Take a }

-- where Takes have given n outputs of an open a, and more were put, the next Take gives the output at place n, from 0, and n + 1 are given
abbrev pub TakesAreInOrder : Type 0
TakesAreInOrder = (c : Model) (h : History) (moment actor : ℕ) (a : AssocNo) (w : Waiting) → is_some (ends a.0 (points c h)) ≡ true
    → slice_get (put c a.0 (points c h)) (given_to a.0 (points c h)) ≡ Some w
    → (answer c h (take_of moment actor a) ≡ answers.Taken (output_of c (arrival (length h) moment ∷ points c h) w))
    × (given_to a.0 (points c (take_of moment actor a ∷ h)) ≡ suc (given_to a.0 (points c h)))

-- after every history of accepted steps at most 16 replies wait for a
abbrev pub QueuesAreShort : Type 0
QueuesAreShort = (c : Model) (h : History) → IsHistory c h → (a : ℕ) → waiting_replies c a (points c h) ≤ 16
