-- The controls by their numbers, at a moment.
use Rattle.std.specs.Prelude.{ℕ, List, [], map, slice_index_or, slice_set, None}
use Rattle.bay_model.specs.Model.{Control, truth}
use Rattle.bay_model.specs.Points.{Deed, lost, finished, blocked, called, selected_control, terminated, least_moment}
use Rattle.control_core.specs.Controls.{ControlState, idle, selected_by, called_by, done, lost_by, stopped, blocked_as}

pub record Table : Type 0 where
  pub moment : ℕ
  pub controls : List ControlState

-- what stands at a number of none
abbrev pub no_control : Control
no_control = record { reference = []; model = 0; timeout = 0; sbo_class = 0; kind = truth }

abbrev pub control_at : List ControlState → ℕ → ControlState
control_at rows k = slice_index_or rows k (idle no_control)

-- control k is another
abbrev pub changed : Table → ℕ → ControlState → Table
changed t k s = record t { controls = slice_set t.controls k s }

-- as they are opened
abbrev pub opened_of : List Control → Table
opened_of cs = record { moment = least_moment; controls = map idle cs }

-- time has passed
abbrev pub at_moment : ℕ → Table → Table
at_moment now t = record t { moment = now }

abbrev pub all_lost : ℕ → Table → Table
all_lost a t = record t { controls = map (lost_by a) t.controls }

-- after what came of a point, at whose moment it stands
abbrev pub after_deed : Deed → Table → Table
after_deed (selected_control a k) t = changed t k (selected_by t.moment a None (control_at t.controls k))
after_deed (called a k call v) t = changed t k (called_by t.moment call a v (control_at t.controls k))
after_deed (finished k good) t = changed t k (done (control_at t.controls k))
after_deed (terminated a k) t = changed t k (stopped (control_at t.controls k))
after_deed (blocked k flag) t = changed t k (blocked_as flag (control_at t.controls k))
after_deed (lost a) t = all_lost a t
after_deed _ t = t
