-- Worked histories: who has reserved a block, and until when (IEC 61850-7-2, ResvTms and Owner).
use Rattle.std.specs.Prelude.{ℕ, true, false, pos, neg_ℤ, List, [], ◌∷◌, ◌++◌, ◌≡◌, reverse}
use Rattle.sv_base.specs.declared.value.Value.{Value}
use Rattle.sv_base.specs.declared.value.Value.TheVariants as kinds
use Rattle.sv_base.specs.declared.components.Comp.{Comp}
use Rattle.sv_base.specs.declared.components.Comp.TheVariants as comps
use Rattle.bay_model.specs.Components.{read_component}
use Rattle.bay_model.specs.Answers.{Turn, points}
use Rattle.bay_examples.specs.Example.{example}
use Rattle.bay_examples.specs.ExampleTurns.{open_direct, open_from, take, enable, disable, interrogate, set_power, write, Answered, lost, resume_at, reserve, at, tick}
use Rattle.bay_model.specs.declared.answer.Answer.TheVariants.{Opened as opened, Went as went}
use Rattle.bay_examples.specs.ExampleAnswers.{ok, refused}

-- what a component of the block reads after these steps
abbrev pub read_after : List Turn → Comp → Value
read_after ts comp = read_component (example 200) 0 comp (points (example 200) (reverse ts))

-- A reservation refuses writes of another address, begins to run out at the loss, and has run out at its seconds.
abbrev pub RunsOut : Type 0
RunsOut = Answered (example 200) (open_direct 1 ∷ [])
    (reserve 1 5 ∷ open_direct 2 ∷ enable 2 ∷ at 1000 (lost 1) ∷ at 5999 (enable 2) ∷ at 6000 (enable 2) ∷ write 2 comps.ResvTms (kinds.Int (neg_ℤ (pos 1))) ∷ [])
    (ok ∷ opened ∷ refused 2 ∷ went ∷ refused 2 ∷ ok ∷ refused 11 ∷ [])

-- A write of the reserved address stops it, whoever made the reservation; ResvTms 0 ends it.
abbrev pub Stopped : Type 0
Stopped = Answered (example 200) (open_direct 1 ∷ [])
    (reserve 1 5 ∷ at 1000 (lost 1) ∷ at 3000 (open_direct 1) ∷ resume_at 1 0 ∷ open_direct 2 ∷ at 20000 (enable 2) ∷ reserve 1 0 ∷ enable 2 ∷ [])
    (ok ∷ went ∷ opened ∷ ok ∷ opened ∷ refused 2 ∷ ok ∷ ok ∷ [])

-- An association of the same address may write, a reservation that it uses is loose only when it is lost too, and one that
-- ran out stays so.
abbrev pub Shared : Type 0
Shared = Answered (example 200) (open_from (10 ∷ []) 65000 1 ∷ open_from (10 ∷ []) 65000 2 ∷ open_direct 3 ∷ [])
    (reserve 1 1 ∷ resume_at 2 0 ∷ at 1000 (lost 1) ∷ at 9000 (resume_at 3 0) ∷ lost 2 ∷ at 9999 (resume_at 3 0) ∷ at 10000 (resume_at 3 0)
    ∷ open_from (10 ∷ []) 65000 1 ∷ resume_at 1 0 ∷ resume_at 3 0 ∷ [])
    (ok ∷ ok ∷ went ∷ refused 2 ∷ went ∷ refused 2 ∷ ok ∷ opened ∷ ok ∷ ok ∷ [])

-- Owner reads the reserved address, else the enabler's, else no octets; ResvTms the seconds while they last.
abbrev pub OwnersRead : Type 0
OwnersRead = (read_after (open_direct 1 ∷ []) comps.Owner ≡ kinds.Octets []) × (read_after (open_direct 1 ∷ enable 1 ∷ []) comps.Owner ≡ kinds.Octets (0 ∷ 0 ∷ 0 ∷ 1 ∷ []))
    × (read_after (open_from (10 ∷ 7 ∷ []) 65000 1 ∷ reserve 1 5 ∷ []) comps.Owner ≡ kinds.Octets (10 ∷ 7 ∷ []))
    × (read_after (open_direct 1 ∷ reserve 1 5 ∷ at 1000 (lost 1) ∷ at 5999 tick ∷ []) comps.ResvTms ≡ kinds.Int (pos 5))
    × (read_after (open_direct 1 ∷ reserve 1 5 ∷ at 1000 (lost 1) ∷ at 6000 tick ∷ []) comps.ResvTms ≡ kinds.Int (pos 0))

-- A moment that goes back is taken as the newest one: the loss at 3000, handed in as 1000, runs out at 8000.
abbrev pub ClampedLoss : Type 0
ClampedLoss = Answered (example 200) (open_direct 1 ∷ open_direct 2 ∷ [])
    (reserve 1 5 ∷ at 3000 tick ∷ at 1000 (lost 1) ∷ at 7999 (enable 2) ∷ at 8000 (enable 2) ∷ [])
    (ok ∷ went ∷ went ∷ refused 2 ∷ ok ∷ [])
