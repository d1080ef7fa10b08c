-- What a call of a control comes to where the controls stand (IEC 61850-7-2, SelectWithValue, Operate and Cancel).
use Rattle.std.specs.Prelude.{◌≡◌, ◌<◌, ℕ, Bool, List, map, length, Option, None, Some, slice_index_or, if◌then◌else◌}
use Rattle.std.specs.List.{All}
use Rattle.sv_base.specs.declared.numbers.CtlNo.{CtlNo}
use Rattle.sv_base.specs.declared.value.Value.{Value}
use Rattle.bay_model.specs.declared.control.ApplError.{ApplError}
use Rattle.bay_model.specs.Model.{Control, Call}
use Rattle.bay_model.specs.Points.{called}
use Rattle.bay_model.specs.Commands.{command_of, is_command}
use Rattle.bay_model.specs.Calls.{Went, accepted, mistyped, barred}
use Rattle.bay_model.specs.Outcomes as outcomes
use Rattle.bay_model.specs.Outcomes.{Outcome, did, refused, deed_of}
use Rattle.assoc_table.specs.Seats.{AreApart}
use Rattle.assoc_table.specs.Tables.{row_of}
use Rattle.control_core.specs.Controls.{ControlState, is_enhanced, went_at, error_at}
use Rattle.control_core.specs.Tables.{Table, control_at, after_deed, no_control}
use Rattle.control_core.specs.TerminationsWait.{due_for}
use Rattle.assoc_table.specs.declared.waiting.Waiting.{Waiting}
use Rattle.assoc_table.specs.Standing.{waiting_of}
use Rattle.control_core.specs.TerminationsWait.{endings}
use Rattle.bay_queues.specs.Heard.{Heard, heard_with}
use Rattle.bay_queues.specs.Queued.{Queued, ends_in}
use Rattle.bay_model.specs.declared.access_errors.TheConstants.{TYPE_INCONSISTENT}

-- the LastApplError of a call of control k, before its AddCause is known; none where its value isn't of the type
abbrev pub blame_of : Control → Call → Value → Option ApplError
blame_of c call v = if is_command c.kind call (command_of v) then Some (error_at c.reference call v 0) else None

abbrev pub blame_in : List Control → ℕ → Call → Value → Option ApplError
blame_in cs k call v = blame_of (slice_index_or cs k no_control) call v

-- what a's call comes to, by what it is answered
abbrev pub outcome_by : ℕ → ℕ → Call → Value → ControlState → Went → Outcome
outcome_by a k call v s accepted = did (called a k call v)
outcome_by a k call v s mistyped = refused TYPE_INCONSISTENT
outcome_by a k call v s (barred cause) = outcomes.barred (error_at s.config.reference call v cause)

abbrev pub outcome_at : Table → ℕ → ℕ → Call → Value → Outcome
outcome_at t a k call v = outcome_by a k call v (control_at t.controls k) (went_at t.moment call a v (control_at t.controls k))

abbrev pub enhanced_in : Table → ℕ → Bool
enhanced_in t k = is_enhanced (control_at t.controls k)

-- after a call
abbrev pub after_call : ℕ → ℕ → Call → Value → Queued → Queued
after_call a k call v q = record q { table = after_deed (deed_of (outcome_at q.table a k call v)) q.table }

-- the termination of a's test operate of this control was put by the request, and doesn't wait yet
pub record IsTest (q : Queued) (a : ℕ) (k : CtlNo) : Type 0 where
  pub there : k.0 < length q.table.controls
  pub due : due_for a (control_at q.table.controls k.0).execution ≡ 1
  pub free : ends_in k.0 (row_of q.rows a) ≡ 0

pub record AreTests (q : Queued) (a : ℕ) (ks : List CtlNo) : Type 0 where
  pub apart : AreApart (map (λ (k : CtlNo). k.0) ks)
  pub each : All (IsTest q a) ks

-- no termination of these controls waits, which are below 64 and all different
pub record AreFree (ws : List Waiting) (ks : List CtlNo) : Type 0 where
  pub apart : AreApart (map (λ (k : CtlNo). k.0) ks)
  pub low : All (λ (k : CtlNo). k.0 < 64) ks
  pub none : All (λ (k : CtlNo). endings k.0 (map waiting_of ws) ≡ 0) ks

-- a's call of control k was accepted: it is heard, and the controls are as it leaves them
pub record IsDone (a k : ℕ) (call : Call) (v : Value) (old new : Queued) (before after : Heard) : Type 0 where
  pub left : new ≡ record old { table = after_deed (called a k call v) old.table }
  pub heard : after ≡ heard_with (enhanced_in old.table) (did (called a k call v)) before
  pub tests : AreTests old a before.tests → AreTests new a after.tests
