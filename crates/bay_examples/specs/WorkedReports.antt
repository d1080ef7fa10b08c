-- Worked histories: which points are events, and what is reported of them (IEC 61850-7-2, TrgOps, IntgPd and GI).
use Rattle.std.specs.Prelude.{true, false, replicate, [], ◌∷◌, codes}
use Rattle.bay_model.specs.declared.answer.Answer.TheVariants.{Went, Empty}
use Rattle.bay_model.specs.Model.{Model}
use Rattle.bay_examples.specs.ExampleNodes as nodes
use Rattle.bay_examples.specs.Example.{example, example_with, options, bits_of}
use Rattle.bay_examples.specs.ExampleTurns.{at, open_direct, take, enable, interrogate, set_quality, set_power, tick, Answered}
use Rattle.bay_examples.specs.ExampleAnswers.{ok, refused, report, unmarked, changed, changed_in_quality, updated, changed_and_updated, by_integrity, by_interrogation, position, position_of, indication, power}

-- A value that was set before the enabling is reported once; setting the same value again is no event.
abbrev pub OneValue : Type 0
OneValue = Answered (example 200) (open_direct 1 ∷ at 10 (set_power 5) ∷ [])
    (at 10 (enable 1) ∷ at 10 (take 1) ∷ at 10 (set_power 5) ∷ at 10 (take 1) ∷ [])
    (ok ∷ report 0 1 10 unmarked (power 5 changed ∷ []) ∷ Went ∷ Empty ∷ [])

-- with data-update triggered, for the power too
abbrev pub updating : Model
updating = record (example_with (record options { trg_ops = bits_of (codes "011101") }) 200) { attrs = nodes.attrs_with (record nodes.power { dupd = true }) }

-- With data-update triggered, each setting is an event; the one that changes nothing has that reason alone.
abbrev pub UpdateFlag : Type 0
UpdateFlag = Answered updating (open_direct 1 ∷ at 10 (set_power 5) ∷ at 20 (set_power 5) ∷ enable 1 ∷ [])
    (take 1 ∷ take 1 ∷ [])
    (report 0 1 10 unmarked (power 5 changed_and_updated ∷ []) ∷ report 1 2 20 unmarked (power 5 updated ∷ []) ∷ [])

-- With quality-change triggered alone, a change of a value is no event; one of quality is, and the report has the whole
-- member. With data-change triggered alone it is the other way.
abbrev pub TriggerBits : Type 0
TriggerBits = (Answered (example_with (record options { trg_ops = bits_of (codes "001001") }) 200) (open_direct 1 ∷ enable 1 ∷ set_power 5 ∷ set_quality (true ∷ replicate 12 false) ∷ [])
    (take 1 ∷ take 1 ∷ []) (report 0 1 0 unmarked (position_of 0x40 0x80 changed_in_quality ∷ []) ∷ Empty ∷ []))
    × (Answered (example_with (record options { trg_ops = bits_of (codes "010001") }) 200) (open_direct 1 ∷ enable 1 ∷ set_quality (true ∷ replicate 12 false) ∷ set_power 5 ∷ [])
    (take 1 ∷ take 1 ∷ []) (report 0 1 0 unmarked (power 5 changed ∷ []) ∷ Empty ∷ []))

-- A period that ended gives one entry of all members, however many ended.
abbrev pub IntegrityPeriod : Type 0
IntegrityPeriod = Answered (example_with (record options { trg_ops = bits_of (codes "011011"); intg_pd = 1000 }) 200) (open_direct 1 ∷ enable 1 ∷ at 2500 tick ∷ [])
    (at 2500 (take 1) ∷ at 2999 tick ∷ at 2999 (take 1) ∷ at 3000 tick ∷ at 3000 (take 1) ∷ [])
    (report 0 1 2500 unmarked (position 0x40 by_integrity ∷ indication 0 by_integrity ∷ power 0 by_integrity ∷ [])
    ∷ Went ∷ Empty ∷ Went ∷ report 1 2 3000 unmarked (position 0x40 by_integrity ∷ indication 0 by_integrity ∷ power 0 by_integrity ∷ []) ∷ [])

-- A general interrogation gives one entry of all members; on a block that isn't enabled it is refused.
abbrev pub Interrogation : Type 0
Interrogation = Answered (example 200) (open_direct 1 ∷ [])
    (interrogate 1 ∷ enable 1 ∷ interrogate 1 ∷ take 1 ∷ [])
    (refused 2 ∷ ok ∷ ok ∷ report 0 1 0 unmarked (position 0x40 by_interrogation ∷ indication 0 by_interrogation ∷ power 0 by_interrogation ∷ []) ∷ [])

-- A moment that lies below an earlier one is taken as that.
abbrev pub MomentBelow : Type 0
MomentBelow = Answered (example 200) (open_direct 1 ∷ at 10 (set_power 5) ∷ at 4 (set_power 6) ∷ enable 1 ∷ [])
    (take 1 ∷ take 1 ∷ [])
    (report 0 1 10 unmarked (power 5 changed ∷ []) ∷ report 1 2 10 unmarked (power 6 changed ∷ []) ∷ [])
