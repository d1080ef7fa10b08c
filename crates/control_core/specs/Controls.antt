-- A control, as it is selected, operated and cancelled, and as its process ends it (IEC 61850-7-2, the control class model).
use Rattle.std.specs.Prelude.{ℕ, ◌+◌, Bool, false, not, ◌&&◌, ◌||◌, ◌==◌, nat_lt, List, [], ◌∷◌, ◌++◌, Option, None, Some, is_some, is_none, if◌then◌else◌}
use Rattle.std.specs.Option.{option_and_then, option_map, option_map_or}
use Rattle.sv_base.specs.declared.value.Value.{Value}
use Rattle.bay_model.specs.Model.{Control, Call, select, operate, cancel}
use Rattle.bay_model.specs.declared.control.ApplError.{ApplError}
use Rattle.bay_model.specs.declared.control.Termination.{Termination}
use Rattle.sv_base.specs.declared.numbers.CtlNo.{CtlNo}
use Rattle.bay_model.specs.Outputs.{name_of_call, no_command}
use Rattle.bay_model.specs.Commands.{Command, command_of, is_command, is_test}
use Rattle.bay_model.specs.Selections.{Selection, without_a}
use Rattle.bay_model.specs.Controls.{Execution, Phase, underway, ended, orphaned, ends_by_done, ends_by_loss}
use Rattle.bay_model.specs.Calls.{Went, mistyped, went_by, first_cause, is_by, is_by_another, is_other_command}
use Rattle.sv_base.specs.declared.ctl_models.TheConstants.{STATUS_ONLY, SBO_NORMAL, DIRECT_ENHANCED, SBO_ENHANCED, OPERATE_ONCE}
use Rattle.bay_model.specs.declared.add_causes.TheConstants.{NOT_SUPPORTED, BLOCKED_BY_PROCESS, COMMAND_ALREADY_IN_EXECUTION, TIME_LIMIT_OVER, OBJECT_NOT_SELECTED, OBJECT_ALREADY_SELECTED, INCONSISTENT_PARAMETERS, LOCKED_BY_OTHER_CLIENT}

-- how a control is configured, who has selected it, what runs, and whether it is blocked
pub record ControlState : Type 0 where
  pub config : Control
  pub selection : Option Selection
  pub execution : Option Execution
  pub is_blocked : Bool

-- as it is opened
abbrev pub idle : Control → ControlState
idle c = record { config = c; selection = None; execution = None; is_blocked = false }

-- the selection that stands at a moment, with a time of n milliseconds
abbrev pub lasting : ℕ → ℕ → Option Selection → Option Selection
lasting now timeout s = option_and_then (λ (h : Selection). if nat_lt now (h.since + timeout) then Some h else None) s

abbrev pub standing_at : ℕ → ControlState → Option Selection
standing_at now s = lasting now s.config.timeout s.selection

abbrev pub is_selectable : ControlState → Bool
is_selectable s = (s.config.model == SBO_NORMAL) || (s.config.model == SBO_ENHANCED)

abbrev pub is_enhanced : ControlState → Bool
is_enhanced s = (s.config.model == DIRECT_ENHANCED) || (s.config.model == SBO_ENHANCED)

-- the AddCauses of a call, in order, each with its test
abbrev pub causes_at : ℕ → Call → ℕ → Option Command → ControlState → List (Bool × ℕ)
causes_at now select a m s = (is_some s.execution, COMMAND_ALREADY_IN_EXECUTION) ∷ (is_some (standing_at now s), OBJECT_ALREADY_SELECTED) ∷ (s.is_blocked, BLOCKED_BY_PROCESS) ∷ []
causes_at now operate a m s =
    (s.config.model == STATUS_ONLY, NOT_SUPPORTED) ∷ (is_some s.execution, COMMAND_ALREADY_IN_EXECUTION)
    ∷ (is_selectable s && is_by_another a (standing_at now s), LOCKED_BY_OTHER_CLIENT) ∷ (is_selectable s && not (is_by a (standing_at now s)), OBJECT_NOT_SELECTED)
    ∷ ((s.config.model == SBO_ENHANCED) && is_other_command m (standing_at now s), INCONSISTENT_PARAMETERS) ∷ (s.is_blocked, BLOCKED_BY_PROCESS) ∷ []
causes_at now cancel a m s =
    (is_some s.execution, COMMAND_ALREADY_IN_EXECUTION) ∷ (is_by_another a (standing_at now s), LOCKED_BY_OTHER_CLIENT) ∷ (not (is_by a (standing_at now s)), OBJECT_NOT_SELECTED)
    ∷ ((s.config.model == SBO_ENHANCED) && is_other_command m (standing_at now s), INCONSISTENT_PARAMETERS) ∷ []

-- what a call comes to
abbrev pub went_at : ℕ → Call → ℕ → Value → ControlState → Went
went_at now call a v s = if is_command s.config.kind call (command_of v) then went_by (first_cause (causes_at now call a (command_of v) s)) else mistyped

abbrev pub can_select_at : ℕ → ControlState → Bool
can_select_at now s = is_none s.execution && not s.is_blocked && is_none (standing_at now s)

-- it is selected, with a command or, by SBO, with none
abbrev pub selected_by : ℕ → ℕ → Option Command → ControlState → ControlState
selected_by now a m s = record s { selection = Some (record { by = a; since = now; command = m }) }

-- a's selection is taken back
abbrev pub cancelled_by : ℕ → ControlState → ControlState
cancelled_by a s = record s { selection = without_a a s.selection }

-- the time of a's selection starts again
abbrev pub renewed : ℕ → ℕ → Option Selection → Option Selection
renewed a now s = option_and_then (λ (h : Selection). Some (if h.by == a then record h { since = now } else h)) s

-- what runs once a command is accepted
abbrev pub begun : ℕ → Value → Execution
begun a v = record { by = a; oper = v; phase = if is_test v then ended else underway }

-- it is operated
abbrev pub operated_by : ℕ → ℕ → Value → ControlState → ControlState
operated_by now a v s = record s {
  selection = if s.config.sbo_class == OPERATE_ONCE then without_a a s.selection else renewed a now s.selection;
  execution = if is_enhanced s then Some (begun a v) else s.execution;
}

-- the process ends what runs
abbrev pub finished : Option Execution → Option Execution
finished e = option_and_then (λ (e : Execution). ends_by_done e e.phase) e

-- the association whose termination is due then
abbrev pub due_of : Execution → Phase → Option ℕ
due_of e underway = Some e.by
due_of e ended = None
due_of e orphaned = None

abbrev pub due : Option Execution → Option ℕ
due e = option_and_then (λ (e : Execution). due_of e e.phase) e

abbrev pub done : ControlState → ControlState
done s = record s { execution = finished s.execution }

-- an association is lost
abbrev pub left : ℕ → Option Execution → Option Execution
left a e = option_and_then (λ (e : Execution). if e.by == a then ends_by_loss e e.phase else Some e) e

abbrev pub lost_by : ℕ → ControlState → ControlState
lost_by a s = record s { selection = without_a a s.selection; execution = left a s.execution }

-- its termination was taken
abbrev pub stopped : ControlState → ControlState
stopped s = record s { execution = None }

abbrev pub blocked_as : Bool → ControlState → ControlState
blocked_as flag s = record s { is_blocked = flag }

-- the LastApplError of the command that runs
abbrev pub error_at : List ℕ → Call → Value → ℕ → ApplError
error_at reference call v cause = option_map_or (λ (m : Command). record { object = reference ++ name_of_call call; or_cat = m.or_cat; or_ident = m.or_ident; ctl_num = m.ctl_num; cause = cause }) (command_of v) no_command

abbrev pub blamed : List ℕ → ℕ → Option Execution → Option ApplError
blamed reference cause e = option_map (λ (e : Execution). error_at reference operate e.oper cause) e

-- what a call does to the control
abbrev pub called_by : ℕ → Call → ℕ → Value → ControlState → ControlState
called_by now select a v s = selected_by now a (command_of v) s
called_by now operate a v s = operated_by now a v s
called_by now cancel a v s = cancelled_by a s

-- the termination of what runs
abbrev pub terminations : CtlNo → Bool → ControlState → Option Termination
terminations k good s = option_map (λ (e : Execution). record {
  control = k;
  oper = e.oper;
  error = if good then None else Some (error_at s.config.reference operate e.oper TIME_LIMIT_OVER);
}) s.execution
