-- Worked histories: whose writes of a block are refused (IEC 61850-7-2, RptEna and SetBRCBValues).
use Rattle.std.specs.Prelude.{true, [], ◌∷◌, codes}
use Rattle.sv_base.specs.declared.value.Value.TheVariants as kinds
use Rattle.sv_base.specs.declared.components.Comp.TheVariants as comps
use Rattle.bay_examples.specs.Example.{example, example_with, options, bits_of}
use Rattle.bay_examples.specs.ExampleTurns.{open_direct, take, enable, disable, interrogate, set_power, write, Answered, lost, resume_at}
use Rattle.bay_examples.specs.ExampleAnswers.{ok, refused, report, unmarked, changed, power}

-- While an association has enabled the block, EntryID is refused to all, and RptEna to every other.
abbrev pub Holding : Type 0
Holding = Answered (example 200) (open_direct 1 ∷ open_direct 2 ∷ enable 1 ∷ [])
    (resume_at 1 0 ∷ resume_at 2 0 ∷ disable 2 ∷ [])
    (refused 2 ∷ refused 2 ∷ refused 2 ∷ [])

-- The loss of another association leaves the block enabled.
abbrev pub LossOfAnother : Type 0
LossOfAnother = Answered (example 200) (open_direct 1 ∷ open_direct 2 ∷ enable 1 ∷ lost 2 ∷ set_power 1 ∷ [])
    (resume_at 1 0 ∷ take 1 ∷ [])
    (refused 2 ∷ report 0 1 0 unmarked (power 1 changed ∷ []) ∷ [])

-- Refused writes of components: another type, a component that isn't written, a data set that isn't there.
abbrev pub RefusedComponents : Type 0
RefusedComponents = Answered (example 200) (open_direct 1 ∷ [])
    (disable 1 ∷ write 1 comps.BufTm (kinds.Text (codes "x")) ∷ write 1 comps.SqNum (kinds.Uint 0) ∷ write 1 comps.DatSet (kinds.Text (codes "BAY1/LLN0$None")) ∷ [])
    (ok ∷ refused 7 ∷ refused 3 ∷ refused 11 ∷ [])

-- The refusals of a write in their order: its type, a component that isn't written, the holding, what the options leave
-- out.
abbrev pub RefusalsInOrder : Type 0
RefusalsInOrder = Answered (example_with (record options { trg_ops = bits_of (codes "011000") }) 200) (open_direct 1 ∷ open_direct 2 ∷ enable 1 ∷ [])
    (write 2 comps.BufTm (kinds.Bool true) ∷ write 2 comps.ConfRev (kinds.Uint 2) ∷ write 2 comps.DatSet (kinds.Text (codes "BAY1/LLN0$None")) ∷ interrogate 2 ∷ interrogate 1 ∷ [])
    (refused 7 ∷ refused 3 ∷ refused 2 ∷ refused 2 ∷ refused 8 ∷ [])
