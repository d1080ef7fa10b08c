-- Who has selected a control (IEC 61850-7-2, the control class model: Select, SelectWithValue, sboTimeout and sboClass).
use Rattle.std.specs.Prelude.{ℕ, ◌+◌, ◌==◌, nat_lt, [], ◌∷◌, Option, None, Some, if◌then◌else◌}
use Rattle.std.specs.Option.{option_and_then}
use Rattle.bay_model.specs.Model.{Model, select, operate, cancel}
use Rattle.bay_model.specs.Lookups.{control_of}
use Rattle.bay_model.specs.Points.{Deed, lost, called, selected_control, Past, now}
use Rattle.bay_model.specs.Commands.{Command, command_of}
use Rattle.sv_base.specs.declared.ctl_models.TheConstants.{OPERATE_ONCE}

-- who selected a control, from when on its time counts, and with which command (none by SBO)
pub record Selection : Type 0 where
  pub by : ℕ
  pub since : ℕ
  pub command : Option Command

-- the selection, but none where it is a's
abbrev pub without_a : ℕ → Option Selection → Option Selection
without_a a was = option_and_then (λ (s : Selection). if s.by == a then None else Some s) was

-- at an accepted Oper of a: under sboClass 0 (operate-once) a's selection ends, under 1 (operate-many) its time starts
-- again
abbrev pub operated : Model → ℕ → ℕ → ℕ → Option Selection → Option Selection
operated c k a moment was = if (control_of c k).sbo_class == OPERATE_ONCE then without_a a was
    else option_and_then (λ (s : Selection). Some (if s.by == a then record s { since = moment } else s)) was

abbrev pub selection_after : Model → ℕ → ℕ → Deed → Option Selection → Option Selection
selection_after c k moment (selected_control a j) was = if j == k then Some (record { by = a; since = moment; command = None }) else was
selection_after c k moment (called a j select v) was = if j == k then Some (record { by = a; since = moment; command = command_of v }) else was
selection_after c k moment (called a j cancel v) was = if j == k then without_a a was else was
selection_after c k moment (called a j operate v) was = if j == k then operated c k a moment was else was
selection_after c k moment (lost a) was = without_a a was
selection_after c k moment _ was = was

-- the last selection of control k that wasn't ended by a cancel, an Oper or a loss
abbrev pub selection : Model → ℕ → Past → Option Selection
selection c k [] = None
selection c k (p ∷ before) = selection_after c k (now (p ∷ before)) p.deed (selection c k before)

-- the selection that stands: `now` is below its start and sboTimeout
abbrev pub standing : Model → ℕ → Past → Option Selection
standing c k past = option_and_then (λ (s : Selection). if nat_lt (now past) (s.since + (control_of c k).timeout) then Some s else None) (selection c k past)
