-- Worked histories: two blocks of one association (IEC 61850-7-2, BRCB; the order of their reports is this profile's own).
use Rattle.std.specs.Prelude.{true, [], ◌∷◌}
use Rattle.sv_base.specs.declared.value.Value.TheVariants as kinds
use Rattle.sv_base.specs.declared.components.Comp.TheVariants as comps
use Rattle.bay_model.specs.declared.answer.Answer.TheVariants.{Empty}
use Rattle.bay_model.specs.Model.{Model}
use Rattle.bay_examples.specs.Example.{example, block}
use Rattle.bay_examples.specs.ExampleTurns.{at, open_direct, take, enable, write_block, resume_at, set_power, Answered}
use Rattle.bay_examples.specs.ExampleAnswers.{report, report_of, unmarked, changed, power}

-- the example with a second block over the same data set
abbrev pub two_blocks : Model
two_blocks = record (example 200) { blocks = block 200 ∷ block 200 ∷ [] }

-- Of entries that came to be at one step, that of the lower block is reported first, whichever was enabled first.
abbrev pub TieOfBlocks : Type 0
TieOfBlocks = Answered two_blocks (open_direct 1 ∷ at 1 (set_power 1) ∷ at 1 (write_block 1 1 comps.RptEna (kinds.Bool true)) ∷ at 1 (enable 1) ∷ [])
    (at 1 (take 1) ∷ at 1 (take 1) ∷ at 1 (take 1) ∷ [])
    (report 0 1 1 unmarked (power 1 changed ∷ []) ∷ report_of 1 0 1 1 unmarked (power 1 changed ∷ []) ∷ Empty ∷ [])

-- Of several next entries the one that came to be at the earliest step is reported first.
abbrev pub EarliestStep : Type 0
EarliestStep = Answered two_blocks (open_direct 1 ∷ at 1 (set_power 1) ∷ at 2 (set_power 2) ∷ at 2 (resume_at 1 1) ∷ at 2 (enable 1) ∷ at 2 (write_block 1 1 comps.RptEna (kinds.Bool true)) ∷ [])
    (at 2 (take 1) ∷ at 2 (take 1) ∷ at 2 (take 1) ∷ at 2 (take 1) ∷ [])
    (report_of 1 0 1 1 unmarked (power 1 changed ∷ []) ∷ report 0 2 2 unmarked (power 2 changed ∷ []) ∷ report_of 1 1 2 2 unmarked (power 2 changed ∷ []) ∷ Empty ∷ [])
