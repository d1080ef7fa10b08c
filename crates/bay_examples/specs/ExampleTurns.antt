-- Steps of worked histories over the example bay: its process, and clients that write its block and take.
use Rattle.std.specs.Prelude.{ℕ, zero, suc, ◌+◌, ◌≡◌, ◌&&◌, Bool, true, false, pos, List, [], ◌∷◌, ◌++◌, reverse, is_none}
use Rattle.std.specs.Int.{to_be_bytes, w32, w64}
use Rattle.sv_base.specs.declared.value.Value.{Value}
use Rattle.sv_base.specs.declared.value.Value.TheVariants as kinds
use Rattle.bay_model.specs.declared.answer.Answer.{Answer}
use Rattle.sv_base.specs.declared.components.Comp.{Comp}
use Rattle.sv_base.specs.declared.components.Comp.TheVariants as comps
use Rattle.bay_model.specs.declared.step.Step.{Step}
use Rattle.bay_model.specs.declared.step.Step.TheVariants as steps
use Rattle.bay_model.specs.Model.{Model}
use Rattle.bay_model.specs.Points.{least_moment}
use Rattle.bay_model.specs.Answers.{Turn, History, answer}
use Rattle.bay_model.specs.Acceptance.{fault}

-- a step at the least moment; the process is the actor 0, and the opener of an association, which takes for it too, has
-- its number
abbrev pub turn : ℕ → Step → Turn
turn actor step = record { moment = least_moment; actor = actor; step = step }

-- the step ms milliseconds later
abbrev pub at : ℕ → Turn → Turn
at ms t = record t { moment = least_moment + ms }

-- a is opened with a greatest size of a PDU, from an address; and from that of its number, in four octets
abbrev pub open_from : List ℕ → ℕ → ℕ → Turn
open_from owner size a = turn a (steps.Open (record { 0 = a }) size (record { 0 = a }) owner)

abbrev pub open_with : ℕ → ℕ → Turn
open_with size a = open_from (to_be_bytes w32 a) size a

abbrev pub open_direct : ℕ → Turn
open_direct a = open_with 65000 a

abbrev pub lost : ℕ → Turn
lost a = turn a (steps.Lost (record { 0 = a }))

abbrev pub take : ℕ → Turn
take a = turn a (steps.Take (record { 0 = a }))

-- a's write of a component of block b, and of the one block of the example
abbrev pub write_block : ℕ → ℕ → Comp → Value → Turn
write_block b a comp v = turn a (steps.Write (record { 0 = a }) (record { 0 = b }) comp v)

abbrev pub write : ℕ → Comp → Value → Turn
write a comp v = write_block 0 a comp v

abbrev pub enable : ℕ → Turn
enable a = write a comps.RptEna (kinds.Bool true)

abbrev pub disable : ℕ → Turn
disable a = write a comps.RptEna (kinds.Bool false)

-- EntryID n
abbrev pub resume_at : ℕ → ℕ → Turn
resume_at a n = write a comps.EntryID (kinds.Octets (to_be_bytes w64 n))

-- ResvTms of n seconds
abbrev pub reserve : ℕ → ℕ → Turn
reserve a seconds = write a comps.ResvTms (kinds.Int (pos seconds))

abbrev pub purge : ℕ → Turn
purge a = write a comps.PurgeBuf (kinds.Bool true)

abbrev pub interrogate : ℕ → Turn
interrogate a = write a comps.GI (kinds.Bool true)

abbrev pub set_position : List Bool → Turn
set_position bits = turn 0 (steps.Value (record { attr = record { 0 = 0 }; value = kinds.Bits bits } ∷ []))

-- the quality of the position
abbrev pub set_quality : List Bool → Turn
set_quality bits = turn 0 (steps.Value (record { attr = record { 0 = 1 }; value = kinds.Bits bits } ∷ []))

abbrev pub set_indication : Bool → Turn
set_indication b = turn 0 (steps.Value (record { attr = record { 0 = 3 }; value = kinds.Bool b } ∷ []))

abbrev pub set_power : ℕ → Turn
set_power n = turn 0 (steps.Value (record { attr = record { 0 = 6 }; value = kinds.Int (pos n) } ∷ []))

-- count powers from n on, each set at the moment of its number
abbrev pub set_powers : ℕ → ℕ → List Turn
set_powers n zero = []
set_powers n (suc count) = at n (set_power n) ∷ set_powers (suc n) count

abbrev pub tick : Turn
tick = turn 0 steps.Tick

-- what further steps are answered, and whether they are accepted; h is a history, the newest step first
abbrev pub answers_after : Model → History → List Turn → List Answer
answers_after c h [] = []
answers_after c h (t ∷ ts) = answer c h t ∷ answers_after c (t ∷ h) ts

abbrev pub are_accepted : Model → History → List Turn → Bool
are_accepted c h [] = true
are_accepted c h (t ∷ ts) = is_none (fault c h t) && are_accepted c (t ∷ h) ts

-- after the first steps the later ones are answered so, and all are accepted; each list is in the order of the steps
abbrev pub Answered : Model → List Turn → List Turn → List Answer → Type 0
Answered c first later answers = (are_accepted c [] (first ++ later) ≡ true) × (answers_after c (reverse first) later ≡ answers)
