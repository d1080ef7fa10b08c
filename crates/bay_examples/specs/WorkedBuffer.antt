-- Worked histories: what the buffer retains, and when a report is marked (IEC 61850-7-2, BufOvfl and PurgeBuf).
use Rattle.std.specs.Prelude.{[], ◌∷◌, ◌++◌, codes}
use Rattle.sv_base.specs.declared.value.Value.TheVariants as kinds
use Rattle.sv_base.specs.declared.components.Comp.TheVariants as comps
use Rattle.bay_model.specs.declared.answer.Answer.TheVariants.{Went, Empty}
use Rattle.bay_examples.specs.Example.{example, bits_of}
use Rattle.bay_examples.specs.ExampleTurns.{at, open_direct, take, enable, disable, set_power, set_powers, write, Answered, purge, resume_at}
use Rattle.bay_examples.specs.ExampleAnswers.{ok, refused, report, marked, unmarked, changed, power}
use Rattle.sv_base.specs.declared.value.Value.{Value}
use Rattle.sv_base.specs.declared.components.Comp.{Comp}

-- Six of nine entries fit the buffer: the first report is of the oldest of them, and alone is marked.
abbrev pub GapMark : Type 0
GapMark = Answered (example 200) (open_direct 1 ∷ (set_powers 1 9 ++ at 9 (enable 1) ∷ []))
    (at 9 (take 1) ∷ at 9 (take 1) ∷ [])
    (report 0 4 4 marked (power 4 changed ∷ []) ∷ report 1 5 5 unmarked (power 5 changed ∷ []) ∷ [])

-- An entry larger than the buffer has its number, and is discarded at once.
abbrev pub OversizedEntry : Type 0
OversizedEntry = Answered (example 31) (open_direct 1 ∷ at 1 (set_power 300) ∷ at 2 (set_power 1) ∷ at 2 (enable 1) ∷ [])
    (at 2 (take 1) ∷ at 2 (take 1) ∷ [])
    (report 0 2 2 marked (power 1 changed ∷ []) ∷ Empty ∷ [])

-- Two entries of 31 octets fit 62 octets, and one of them 61.
abbrev pub ExactCapacity : Type 0
ExactCapacity = (Answered (example 62) (open_direct 1 ∷ set_powers 1 2) (at 2 (enable 1) ∷ at 2 (take 1) ∷ []) (ok ∷ report 0 1 1 unmarked (power 1 changed ∷ []) ∷ []))
    × (Answered (example 61) (open_direct 1 ∷ set_powers 1 2) (at 2 (enable 1) ∷ at 2 (take 1) ∷ []) (ok ∷ report 0 2 2 marked (power 2 changed ∷ []) ∷ []))

-- A purge of an entry that wasn't sent: the next report is marked, and has the next number.
abbrev pub PurgeOfUnsent : Type 0
PurgeOfUnsent = Answered (example 200) (open_direct 1 ∷ set_power 1 ∷ [])
    (purge 1 ∷ set_power 2 ∷ enable 1 ∷ take 1 ∷ [])
    (ok ∷ Went ∷ ok ∷ report 0 2 0 marked (power 2 changed ∷ []) ∷ [])

-- A purge of entries that were all sent: the next report is not marked; its SqNum begins anew by the enabling.
abbrev pub PurgeOfSent : Type 0
PurgeOfSent = Answered (example 200) (open_direct 1 ∷ set_power 1 ∷ enable 1 ∷ take 1 ∷ [])
    (disable 1 ∷ purge 1 ∷ set_power 2 ∷ enable 1 ∷ take 1 ∷ [])
    (ok ∷ ok ∷ Went ∷ ok ∷ report 0 2 0 unmarked (power 2 changed ∷ []) ∷ [])

-- the write purges: entry 1 isn't retained after it
abbrev pub Purging : Comp → Value → Type 0
Purging comp v = Answered (example 200) (open_direct 1 ∷ set_power 1 ∷ []) (write 1 comp v ∷ resume_at 1 1 ∷ []) (ok ∷ refused 11 ∷ [])

-- A changed RptID, BufTm, TrgOps or IntgPd purges; a changed OptFlds doesn't.
abbrev pub PurgingChanges : Type 0
PurgingChanges = Purging comps.RptID (kinds.Text (codes "Ev2")) × Purging comps.BufTm (kinds.Uint 1) × Purging comps.TrgOps (kinds.Bits (bits_of (codes "011011"))) × Purging comps.IntgPd (kinds.Uint 1)
    × (Answered (example 200) (open_direct 1 ∷ set_power 1 ∷ []) (write 1 comps.OptFlds (kinds.Bits (bits_of (codes "0000000000"))) ∷ resume_at 1 1 ∷ []) (ok ∷ ok ∷ []))
