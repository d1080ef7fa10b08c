-- Worked histories: where the reports of a block go on (IEC 61850-7-2, EntryID and SqNum).
use Rattle.std.specs.Prelude.{[], ◌∷◌, ◌++◌}
use Rattle.bay_model.specs.declared.answer.Answer.TheVariants.{Went, Empty}
use Rattle.bay_examples.specs.Example.{example}
use Rattle.bay_examples.specs.ExampleTurns.{at, open_direct, take, enable, set_power, set_powers, Answered, lost, resume_at}
use Rattle.bay_examples.specs.ExampleAnswers.{ok, refused, report, marked, unmarked, changed, power}

-- After the EntryID of the newest entry nothing is sent until the next value.
abbrev pub ResumeAtNewest : Type 0
ResumeAtNewest = Answered (example 200) (open_direct 1 ∷ set_powers 1 9)
    (at 9 (resume_at 1 9) ∷ at 9 (enable 1) ∷ at 9 (take 1) ∷ at 10 (set_power 10) ∷ at 10 (take 1) ∷ [])
    (ok ∷ ok ∷ Empty ∷ Went ∷ report 0 10 10 unmarked (power 10 changed ∷ []) ∷ [])

-- Where the entries after the named one were discarded since, the report is of the oldest that is retained, and marked.
abbrev pub ResumeBelowFront : Type 0
ResumeBelowFront = Answered (example 200) (open_direct 1 ∷ (set_powers 1 12 ++ (at 12 (resume_at 1 7) ∷ set_powers 13 2)))
    (at 14 (enable 1) ∷ at 14 (take 1) ∷ [])
    (ok ∷ report 0 9 9 marked (power 9 changed ∷ []) ∷ [])

-- An EntryID that isn't retained is refused, the front's own too; zero is accepted, and begins at the oldest entry.
abbrev pub RefusedEntryIDs : Type 0
RefusedEntryIDs = Answered (example 200) (open_direct 1 ∷ set_powers 1 9)
    (at 9 (resume_at 1 3) ∷ at 9 (resume_at 1 10) ∷ at 9 (resume_at 1 0) ∷ at 9 (enable 1) ∷ at 9 (take 1) ∷ [])
    (refused 11 ∷ refused 11 ∷ ok ∷ ok ∷ report 0 4 4 marked (power 4 changed ∷ []) ∷ [])

-- A lost association leaves the block to another, which resumes at the last entry that was sent.
abbrev pub LossAndResume : Type 0
LossAndResume = Answered (example 200) (open_direct 1 ∷ (set_powers 1 3 ++ (at 3 (enable 1) ∷ at 3 (take 1) ∷ at 3 (lost 1) ∷ at 3 (open_direct 2) ∷ [])))
    (at 3 (resume_at 2 1) ∷ at 3 (enable 2) ∷ at 3 (take 2) ∷ at 3 (take 2) ∷ at 3 (take 2) ∷ [])
    (ok ∷ ok ∷ report 0 2 2 unmarked (power 2 changed ∷ []) ∷ report 1 3 3 unmarked (power 3 changed ∷ []) ∷ Empty ∷ [])

-- An enabling by the one that has enabled already does nothing: SqNum goes on.
abbrev pub EnabledTwice : Type 0
EnabledTwice = Answered (example 200) (open_direct 1 ∷ (set_powers 1 2 ++ (at 2 (enable 1) ∷ at 2 (take 1) ∷ [])))
    (at 2 (enable 1) ∷ at 2 (take 1) ∷ [])
    (ok ∷ report 1 2 2 unmarked (power 2 changed ∷ []) ∷ [])
