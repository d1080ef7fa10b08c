-- What waits to be taken for an association (ISO 9506-2, the response to a confirmed service; IEC 61850-8-1,
-- LastApplError; IEC 61850-7-2, CommandTermination).
use Rattle.std.specs.Prelude.{suc, ℕ, Bool, true, false, ◌&&◌, ◌==◌, List, [], ◌∷◌, ◌++◌, map, drop, Option, None, Some, if◌then◌else◌}
use Rattle.bay_model.specs.declared.answer.Output.{Output}
use Rattle.bay_model.specs.Model.{Model, operate}
use Rattle.bay_model.specs.Points.{Deed, opened, lost, finished, called, answered, took, terminated, Past}
use Rattle.bay_model.specs.Controls.{Execution, Phase, execution, underway, is_enhanced}
use Rattle.bay_model.specs.Commands.{is_test}

-- an output that is put for an association: a reply with the errors before it, or the termination of control k, positive
-- or negative
pub data Waiting : Type 0 where
  reply : Output → Waiting
  ending : (k : ℕ) → Bool → Waiting

-- the control of an accepted test operate under enhanced security
abbrev pub tests_of : Model → Deed → List ℕ
tests_of c (called a k operate v) = if is_enhanced c k && is_test v then k ∷ [] else []
tests_of c _ = []

-- the controls of a step's test operates, in their order
abbrev pub tests : Model → ℕ → Past → List ℕ
tests c step [] = []
tests c step (p ∷ before) = if p.step == step then tests c step before ++ tests_of c p.deed else []

abbrev pub is_underway : Phase → Bool
is_underway underway = true
is_underway _ = false

-- the termination of control k, where its execution is a's and its termination wasn't put
abbrev pub ends_for : ℕ → ℕ → Bool → Option Execution → List Waiting
ends_for a k good None = []
ends_for a k good (Some e) = if (e.by == a) && is_underway e.phase then ending k good ∷ [] else []

-- what a deed puts for a: at the reply to a request the reply, then the positive terminations of the request's test
-- operates; at a Done the termination of the control
abbrev pub put_by : Model → ℕ → ℕ → Deed → Past → List Waiting
put_by c a step (answered e output change) before = if e == a then reply output ∷ map (λ k. ending k true) (tests c step before) else []
put_by c a step (finished k good) before = ends_for a k good (execution c k before)
put_by c a step _ before = []

-- a is opened, or lost: what waits is dropped
abbrev pub is_start : ℕ → Deed → Bool
is_start a (opened e opener writer size owner) = e == a
is_start a (lost e) = e == a
is_start a _ = false

abbrev pub extended : List Waiting → List Waiting → List Waiting
extended ws [] = ws
extended ws (v ∷ vs) = ws ++ v ∷ vs

-- the outputs that were made for a since it was opened, the oldest first; none where a isn't open
abbrev pub put : Model → ℕ → Past → List Waiting
put c a [] = []
put c a (p ∷ before) = if is_start a p.deed then [] else extended (put c a before) (put_by c a p.step p.deed before)

-- a Take of a gave an output that waited
abbrev pub is_giving : ℕ → Deed → Bool
is_giving a (took e) = e == a
is_giving a (terminated e k) = e == a
is_giving a _ = false

-- the outputs that were put for a and that no Take has given, the oldest first: each Take gives the oldest
abbrev pub waiting : Model → ℕ → Past → List Waiting
waiting c a [] = []
waiting c a (p ∷ before) = if is_start a p.deed then [] else (if is_giving a p.deed then drop 1 (waiting c a before) else extended (waiting c a before) (put_by c a p.step p.deed before))

-- how many of them are replies
abbrev pub replies_in : List Waiting → ℕ
replies_in [] = 0
replies_in (reply output ∷ ws) = suc (replies_in ws)
replies_in (ending k good ∷ ws) = replies_in ws

-- how many replies of a wait; terminations aren't counted
abbrev pub waiting_replies : Model → ℕ → Past → ℕ
waiting_replies c a past = replies_in (waiting c a past)
