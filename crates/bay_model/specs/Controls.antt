-- Controls: whether one is blocked, and whether it is running (IEC 61850-7-2, the control class model: direct control
-- and SBO control with enhanced security, and CommandTermination).
use Rattle.std.specs.Prelude.{ℕ, Bool, false, ◌&&◌, ◌||◌, ◌==◌, [], ◌∷◌, Option, None, Some, if◌then◌else◌}
use Rattle.std.specs.Option.{option_and_then}
use Rattle.sv_base.specs.declared.value.Value.{Value}
use Rattle.bay_model.specs.Model.{Model, operate}
use Rattle.bay_model.specs.Lookups.{control_of}
use Rattle.bay_model.specs.Points.{Deed, lost, finished, blocked, called, terminated, Past}
use Rattle.bay_model.specs.Commands.{is_test}
use Rattle.sv_base.specs.declared.ctl_models.TheConstants.{DIRECT_ENHANCED, SBO_ENHANCED}

abbrev pub blocked_after : ℕ → Deed → Bool → Bool
blocked_after k (blocked j flag) was = if j == k then flag else was
blocked_after k _ was = was

-- control k is blocked by the last Block step of it, else not
abbrev pub is_blocked : ℕ → Past → Bool
is_blocked k [] = false
is_blocked k (p ∷ before) = blocked_after k p.deed (is_blocked k before)

-- how far the last accepted Oper has come: its CommandTermination wasn't put yet, or was put, or will never be put since
-- its association was lost before
pub data Phase : Type 0 where
  underway : Phase
  ended : Phase
  orphaned : Phase

-- an accepted Oper that is running: whose it is, its value, and how far it has come
pub record Execution : Type 0 where
  pub by : ℕ
  pub oper : Value
  pub phase : Phase

-- ctlModel is direct or SBO control with enhanced security
abbrev pub is_enhanced : Model → ℕ → Bool
is_enhanced c k = ((control_of c k).model == DIRECT_ENHANCED) || ((control_of c k).model == SBO_ENHANCED)

-- an execution at a Done of its control, and at the loss of its association
abbrev pub ends_by_done : Execution → Phase → Option Execution
ends_by_done e underway = Some (record e { phase = ended })
ends_by_done e ended = Some e
ends_by_done e orphaned = None

abbrev pub ends_by_loss : Execution → Phase → Option Execution
ends_by_loss e underway = Some (record e { phase = orphaned })
ends_by_loss e ended = None
ends_by_loss e orphaned = Some e

abbrev pub execution_after : Model → ℕ → Deed → Option Execution → Option Execution
execution_after c k (called a j operate v) was = if (j == k) && is_enhanced c k then Some (record { by = a; oper = v; phase = if is_test v then ended else underway }) else was
execution_after c k (finished j good) was = if j == k then option_and_then (λ (e : Execution). ends_by_done e e.phase) was else was
execution_after c k (lost a) was = option_and_then (λ (e : Execution). if e.by == a then ends_by_loss e e.phase else Some e) was
execution_after c k (terminated a j) was = if j == k then None else was
execution_after c k _ was = was

-- The running Oper of control k, under enhanced security alone. Its termination is put at the first Done, that of a test
-- at once. It runs until the Take that gives the termination, or the loss of its association after the termination was
-- put, or, where the loss came before that, the first Done after the loss.
abbrev pub execution : Model → ℕ → Past → Option Execution
execution c k [] = None
execution c k (p ∷ before) = execution_after c k p.deed (execution c k before)
