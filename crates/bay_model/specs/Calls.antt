-- Which calls of a control are accepted, and the AddCause of those that aren't (IEC 61850-7-2, the control class model
-- and AddCause; the order of the causes is this profile's own).
use Rattle.std.specs.Prelude.{◌≡◌, ◌⊎◌, ◌↔◌, true, false, ℕ, Bool, false, not, ◌&&◌, ◌||◌, ◌==◌, List, [], ◌∷◌, Option, None, Some, is_some, is_none, if◌then◌else◌}
use Rattle.std.specs.Option.{option_map_or, option_and_then}
use Rattle.sv_base.specs.declared.value.Value.{Value}
use Rattle.bay_model.specs.Model.{Model, Call, select, operate, cancel}
use Rattle.bay_model.specs.Lookups.{control_of}
use Rattle.bay_model.specs.Points.{Past}
use Rattle.bay_model.specs.Commands.{Command, command_of, is_command, differs}
use Rattle.bay_model.specs.Controls.{execution, is_blocked}
use Rattle.bay_model.specs.Selections.{standing, Selection}
use Rattle.sv_base.specs.declared.ctl_models.TheConstants.{STATUS_ONLY, SBO_NORMAL, SBO_ENHANCED}
use Rattle.bay_model.specs.declared.add_causes.TheConstants.{NOT_SUPPORTED, BLOCKED_BY_PROCESS, COMMAND_ALREADY_IN_EXECUTION, OBJECT_NOT_SELECTED, OBJECT_ALREADY_SELECTED, INCONSISTENT_PARAMETERS, LOCKED_BY_OTHER_CLIENT}

-- a selection is a's, and another's
abbrev pub is_by : ℕ → Option Selection → Bool
is_by a s = option_map_or (λ (s : Selection). s.by == a) s false

abbrev pub is_by_another : ℕ → Option Selection → Bool
is_by_another a s = option_map_or (λ (s : Selection). not (s.by == a)) s false

-- the command differs from that of the selection
abbrev pub is_other_command : Option Command → Option Selection → Bool
is_other_command m s = option_map_or (λ m. option_map_or (λ n. differs m n) (option_and_then (λ (s : Selection). s.command) s) false) m false

-- the first of the causes whose test is true
abbrev pub first_cause : List (Bool × ℕ) → Option ℕ
first_cause [] = None
first_cause (t ∷ ts) = if t.0 then Some t.1 else first_cause ts

-- ctlModel is SBO control, with normal or enhanced security
abbrev pub is_selectable : Model → ℕ → Bool
is_selectable c k = ((control_of c k).model == SBO_NORMAL) || ((control_of c k).model == SBO_ENHANCED)

-- the AddCauses of a call of control k by a, in order, each with its test
abbrev pub causes : Model → ℕ → Call → ℕ → Option Command → Past → List (Bool × ℕ)
causes c k select a m past = (is_some (execution c k past), COMMAND_ALREADY_IN_EXECUTION) ∷ (is_some (standing c k past), OBJECT_ALREADY_SELECTED) ∷ (is_blocked k past, BLOCKED_BY_PROCESS) ∷ []
causes c k operate a m past =
    ((control_of c k).model == STATUS_ONLY, NOT_SUPPORTED) ∷ (is_some (execution c k past), COMMAND_ALREADY_IN_EXECUTION)
    ∷ (is_selectable c k && is_by_another a (standing c k past), LOCKED_BY_OTHER_CLIENT) ∷ (is_selectable c k && not (is_by a (standing c k past)), OBJECT_NOT_SELECTED)
    ∷ (((control_of c k).model == SBO_ENHANCED) && is_other_command m (standing c k past), INCONSISTENT_PARAMETERS) ∷ (is_blocked k past, BLOCKED_BY_PROCESS) ∷ []
causes c k cancel a m past =
    (is_some (execution c k past), COMMAND_ALREADY_IN_EXECUTION) ∷ (is_by_another a (standing c k past), LOCKED_BY_OTHER_CLIENT) ∷ (not (is_by a (standing c k past)), OBJECT_NOT_SELECTED)
    ∷ (((control_of c k).model == SBO_ENHANCED) && is_other_command m (standing c k past), INCONSISTENT_PARAMETERS) ∷ []

-- what comes of a call: it is accepted, or refused for its value, or with an AddCause
pub data Went : Type 0 where
  accepted : Went
  mistyped : Went
  barred : (cause : ℕ) → Went

abbrev pub went_by : Option ℕ → Went
went_by None = accepted
went_by (Some cause) = barred cause

-- what a's call of control k with value v comes to; past ends with the moment of the call
abbrev pub went : Model → ℕ → Call → ℕ → Value → Past → Went
went c k call a v past = if is_command (control_of c k).kind call (command_of v) then went_by (first_cause (causes c k call a (command_of v) past)) else mistyped

-- the first of the causes whose test is true refuses the call; where there is none it is accepted
abbrev pub IsFirst : List (Bool × ℕ) → Went → Type 0
IsFirst [] r = r ≡ accepted
IsFirst (t ∷ ts) r = ((t.0 ≡ true) × (r ≡ barred t.1)) ⊎ ((t.0 ≡ false) × IsFirst ts r)

-- what a call comes to, as a relation: refused for its value, or by the first cause, or accepted
abbrev pub ComesTo : Model → ℕ → Call → ℕ → Value → Past → Went → Type 0
ComesTo c k call a v past r =
    ((is_command (control_of c k).kind call (command_of v) ≡ false) × (r ≡ mistyped))
    ⊎ ((is_command (control_of c k).kind call (command_of v) ≡ true) × IsFirst (causes c k call a (command_of v) past) r)

-- the function is the relation's one solution
abbrev pub CallsComeToOne : Type 0
CallsComeToOne = (c : Model) (k : ℕ) (call : Call) (a : ℕ) (v : Value) (past : Past) (r : Went) → ComesTo c k call a v past r ↔ (r ≡ went c k call a v past)

-- a read of SBO selects control k: it isn't running, isn't blocked and is selected by nobody
abbrev pub can_select : Model → ℕ → Past → Bool
can_select c k past = is_none (execution c k past) && not (is_blocked k past) && is_none (standing c k past)
