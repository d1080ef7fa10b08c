-- What a control executes: its last Oper, and what came after that (IEC 61850-7-2, direct control and SBO control with enhanced security, and
-- CommandTermination).
use Rattle.std.specs.Prelude.{◌≡◌, ℕ, Bool, false, not, ◌&&◌, ◌||◌, ◌==◌, length, map, true, List, [], ◌∷◌, ◌++◌, Option, None, Some, if◌then◌else◌}
use Rattle.std.specs.Option.{option_and_then, option_map, option_map_or}
use Rattle.sv_base.specs.declared.value.Value.{Value}
use Rattle.bay_model.specs.Model.{Model, operate}
use Rattle.bay_model.specs.Points.{Deed, lost, finished, called, terminated, Point, Past}
use Rattle.bay_model.specs.Commands.{is_test}
use Rattle.bay_model.specs.Controls.{Phase, underway, ended, orphaned, Execution, execution, execution_after, is_enhanced}
use Rattle.bay_model.specs.Waiting.{Waiting, reply, ending, put_by, tests_of}
use Rattle.bay_model.specs.Outcomes.{Outcome, deed_of}
use Rattle.sv_base.specs.declared.numbers.AssocNo.{AssocNo}
use Rattle.bay_model.specs.declared.request.Request.{Request}
use Rattle.bay_model.specs.declared.step.Step.TheVariants as steps
use Rattle.bay_model.specs.Answers.{Turn, History, points, deed_at, outcomes_of, output_for}
use Rattle.bay_model.specs.Acceptance.{IsHistory}
use Rattle.control_core.specs.TerminationsWait.{asked}

-- an accepted Oper of a control: whose it is, its value, and the points after it, the newest first
pub record Operated : Type 0 where
  pub by : ℕ
  pub oper : Value
  pub after : Past

abbrev pub followed : Point → Operated → Operated
followed p o = record { by = o.by; oper = o.oper; after = p ∷ o.after }

abbrev pub last_after : ℕ → Point → Deed → Option Operated → Option Operated
last_after k p (called a j operate v) was = if j == k then Some (record { by = a; oper = v; after = [] }) else option_map (followed p) was
last_after k p _ was = option_map (followed p) was

-- the last accepted Oper of control k
abbrev pub last_oper : ℕ → Past → Option Operated
last_oper k [] = None
last_oper k (p ∷ before) = last_after k p p.deed (last_oper k before)

-- there is such a deed among the points; a deed is judged with those between the Oper and it
abbrev pub is_among : (Deed → Past → Bool) → Past → Bool
is_among f [] = false
is_among f (p ∷ between) = f p.deed between || is_among f between

abbrev pub is_done : ℕ → Deed → Bool
is_done k (finished j good) = j == k
is_done k _ = false

abbrev pub is_loss : ℕ → Deed → Bool
is_loss a (lost b) = b == a
is_loss a _ = false

abbrev pub gives : ℕ → ℕ → Deed → Bool
gives a k (terminated b j) = (b == a) && (j == k)
gives a k _ = false

-- the process ended the execution, and the association was lost
abbrev pub was_done : ℕ → Past → Bool
was_done k after = is_among (λ d between. is_done k d) after

abbrev pub was_lost : ℕ → Past → Bool
was_lost a after = is_among (λ d between. is_loss a d) after

-- the termination of a's Oper v was put: at the Oper where it is a test, else at a Done with no loss of a before it
abbrev pub was_put : ℕ → ℕ → Value → Past → Bool
was_put k a v after = is_test v || is_among (λ d between. is_done k d && not (was_lost a between)) after

-- a was lost before the termination was put
abbrev pub lost_before : ℕ → ℕ → Value → Past → Bool
lost_before k a v after = is_among (λ d between. is_loss a d && not (was_put k a v between)) after

-- it runs no longer: a Take gave its termination, or a was lost after the termination was put, or there was a Done after the loss of a before that
abbrev pub is_over : ℕ → ℕ → Value → Past → Bool
is_over k a v after = is_among (λ d between. ((gives a k d || is_loss a d) && was_put k a v between) || (is_done k d && lost_before k a v between)) after

abbrev pub phase_at : ℕ → Operated → Phase
phase_at k o = if was_put k o.by o.oper o.after then ended else (if lost_before k o.by o.oper o.after then orphaned else underway)

abbrev pub executed : ℕ → Option Operated → Option Execution
executed k last = option_and_then (λ (o : Operated). if is_over k o.by o.oper o.after then None else Some (record { by = o.by; oper = o.oper; phase = phase_at k o })) last

-- after every history a control with enhanced security executes its last accepted Oper until that is over; no other control executes anything
abbrev pub ExecutionsAre : Type 0
ExecutionsAre = (c : Model) (h : History) → IsHistory c h → (k : ℕ) → execution c k (points c h) ≡ (if is_enhanced c k then executed k (last_oper k (points c h)) else None)

-- a Done would be the first after the Oper, which is no test, and its association wasn't lost since
abbrev pub is_first : ℕ → Operated → Bool
is_first k o = not (is_test o.oper) && not (was_done k o.after) && not (was_lost o.by o.after)

abbrev pub first_for : ℕ → ℕ → Bool → Option Operated → List Waiting
first_for a k good None = []
first_for a k good (Some o) = if (o.by == a) && is_first k o then ending k good ∷ [] else []

-- a Done puts a termination, positive or negative, exactly for the association whose Oper it is the first after
abbrev pub TerminationsAre : Type 0
TerminationsAre = (c : Model) (h : History) → IsHistory c h → (a k : ℕ) (good : Bool)
    → put_by c a (length h) (finished k good) (points c h) ≡ (if is_enhanced c k then first_for a k good (last_oper k (points c h)) else [])

-- a Done would be the first after the Oper, or the first after the loss of its association before that
abbrev pub ends_by : ℕ → Operated → Bool
ends_by k o = is_first k o || (lost_before k o.by o.oper o.after && not (is_over k o.by o.oper o.after))

-- every other Done changes nothing
abbrev pub OtherDonesChangeNothing : Type 0
OtherDonesChangeNothing = (c : Model) (h : History) → IsHistory c h → (k : ℕ) (good : Bool) → (is_enhanced c k && option_map_or (λ (o : Operated). ends_by k o) (last_oper k (points c h)) false) ≡ false
    → execution_after c k (finished k good) (execution c k (points c h)) ≡ execution c k (points c h)

-- the controls of accepted test operates under enhanced security, in order
abbrev pub tests_in : Model → List Outcome → List ℕ
tests_in c [] = []
tests_in c (o ∷ os) = tests_of c (deed_of o) ++ tests_in c os

-- after the reply to a request come the positive terminations of its own test operates, in their order
abbrev pub TestsFollow : Type 0
TestsFollow = (c : Model) (h : History) (t : Turn) (a : AssocNo) (r : Request) → put_by c a.0 (length h) (deed_at c (length h) t (points c h) (steps.Ask a r)) (asked c h t a.0 r)
    ≡ reply (output_for c (length h) t.moment a.0 r (points c h)) ∷ map (λ k. ending k true) (tests_in c (outcomes_of c (length h) t.moment a.0 r (points c h)))
