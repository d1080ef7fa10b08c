-- Worked histories: how events are gathered, and what closes the entry that is open (IEC 61850-7-2, BufTm beside PurgeBuf,
-- GI and IntgPd).
use Rattle.std.specs.Prelude.{true, [], ◌∷◌, codes}
use Rattle.sv_base.specs.declared.value.Value.TheVariants as kinds
use Rattle.sv_base.specs.declared.components.Comp.TheVariants as comps
use Rattle.bay_model.specs.declared.answer.Answer.TheVariants.{Went, Empty}
use Rattle.bay_model.specs.Model.{Model}
use Rattle.bay_examples.specs.Example.{example_with, options, bits_of}
use Rattle.bay_examples.specs.ExampleTurns.{at, open_direct, take, enable, interrogate, set_position, set_indication, set_power, tick, write, Answered, purge}
use Rattle.bay_examples.specs.ExampleAnswers.{report, marked, unmarked, changed, by_integrity, by_interrogation, position, indication, power}

-- with a buffer time of 100
abbrev pub buffering : Model
buffering = example_with (record options { buf_tm = 100 }) 200

-- Events within the buffer time from the first are one entry, which is there once the time is over.
abbrev pub TwoMembersInOneWindow : Type 0
TwoMembersInOneWindow = Answered buffering (open_direct 1 ∷ enable 1 ∷ set_position (bits_of (codes "10")) ∷ at 99 (set_indication true) ∷ [])
    (at 99 (take 1) ∷ at 100 tick ∷ at 100 (take 1) ∷ [])
    (Empty ∷ Went ∷ report 0 1 0 unmarked (position 0x80 changed ∷ indication 0xff changed ∷ []) ∷ [])

-- An event when the time is over is of the next entry.
abbrev pub TwoWindows : Type 0
TwoWindows = Answered buffering (open_direct 1 ∷ enable 1 ∷ set_position (bits_of (codes "10")) ∷ at 100 (set_indication true) ∷ [])
    (at 100 (take 1) ∷ at 199 (take 1) ∷ at 200 tick ∷ at 200 (take 1) ∷ [])
    (report 0 1 0 unmarked (position 0x80 changed ∷ []) ∷ Empty ∷ Went ∷ report 1 2 100 unmarked (indication 0xff changed ∷ []) ∷ [])

-- A second event of a member closes the entry at once, and waits in the next one.
abbrev pub RepeatedMember : Type 0
RepeatedMember = Answered buffering (open_direct 1 ∷ enable 1 ∷ set_position (bits_of (codes "10")) ∷ at 9 (set_position (bits_of (codes "11"))) ∷ [])
    (at 9 (take 1) ∷ at 9 (take 1) ∷ at 109 (take 1) ∷ [])
    (report 0 1 0 unmarked (position 0x80 changed ∷ []) ∷ Empty ∷ report 1 2 9 unmarked (position 0xc0 changed ∷ []) ∷ [])

-- A purge closes the open entry, which has its number and is discarded: the next one has the number after it.
abbrev pub PurgeClosesEntry : Type 0
PurgeClosesEntry = Answered buffering (open_direct 1 ∷ set_position (bits_of (codes "10")) ∷ purge 1 ∷ at 1 (set_indication true) ∷ at 1 (enable 1) ∷ [])
    (at 1 (take 1) ∷ at 101 (take 1) ∷ [])
    (Empty ∷ report 0 2 1 marked (indication 0xff changed ∷ []) ∷ [])

-- A general interrogation closes the open entry, which comes before its own.
abbrev pub InterrogationClosesEntry : Type 0
InterrogationClosesEntry = Answered buffering (open_direct 1 ∷ enable 1 ∷ set_position (bits_of (codes "10")) ∷ at 5 (interrogate 1) ∷ [])
    (at 5 (take 1) ∷ at 5 (take 1) ∷ [])
    (report 0 1 0 unmarked (position 0x80 changed ∷ []) ∷ report 1 2 5 unmarked (position 0x80 by_interrogation ∷ indication 0 by_interrogation ∷ power 0 by_interrogation ∷ []) ∷ [])

-- with a buffer time of 100, and integrity periods of 1000
abbrev pub periodic : Model
periodic = example_with (record options { trg_ops = bits_of (codes "011011"); buf_tm = 100; intg_pd = 1000 }) 200

-- An integrity entry comes before the effect of the step that it comes with, closes the open entry, and has the values
-- before the step.
abbrev pub IntegrityBeforeEffect : Type 0
IntegrityBeforeEffect = Answered periodic (open_direct 1 ∷ enable 1 ∷ at 950 (set_indication true) ∷ at 1000 (set_power 7) ∷ [])
    (at 1000 (take 1) ∷ at 1000 (take 1) ∷ at 1000 (take 1) ∷ at 1100 (take 1) ∷ [])
    (report 0 1 950 unmarked (indication 0xff changed ∷ []) ∷ report 1 2 1000 unmarked (position 0x40 by_integrity ∷ indication 0xff by_integrity ∷ power 0 by_integrity ∷ [])
    ∷ Empty ∷ report 2 3 1000 unmarked (power 7 changed ∷ []) ∷ [])

-- The periods begin anew at a purging change, which a write of the same value isn't.
abbrev pub PeriodsBeginAnew : Type 0
PeriodsBeginAnew = Answered periodic (open_direct 1 ∷ at 500 (write 1 comps.BufTm (kinds.Uint 50)) ∷ at 800 (write 1 comps.BufTm (kinds.Uint 50)) ∷ at 800 (enable 1) ∷ [])
    (at 1499 (take 1) ∷ at 1500 (take 1) ∷ [])
    (Empty ∷ report 0 1 1500 unmarked (position 0x40 by_integrity ∷ indication 0 by_integrity ∷ power 0 by_integrity ∷ []) ∷ [])
