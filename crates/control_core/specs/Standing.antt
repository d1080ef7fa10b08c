-- What controls stand for: those of the model, up to the last point of a past.
use Rattle.std.specs.Prelude.{◌≡◌, ◌<◌, ℕ, Bool, List, [], ◌∷◌, length, Option, None, Some, ◌==◌, if◌then◌else◌}
use Rattle.bay_model.specs.Model.{Model}
use Rattle.bay_model.specs.Lookups.{control_of}
use Rattle.bay_model.specs.Points.{Deed, Point, Past, now}
use Rattle.bay_model.specs.Selections.{selection}
use Rattle.bay_model.specs.Controls.{execution, is_blocked}
use Rattle.bay_model.specs.Waiting.{Waiting, ending}
use Rattle.control_core.specs.Controls.{ControlState}
use Rattle.control_core.specs.Tables.{Table, control_at}

-- control k as it is configured and, up to the last point, selected, running and blocked
abbrev pub at_past : Model → ℕ → Past → ControlState
at_past c k past = record { config = control_of c k; selection = selection c k past; execution = execution c k past; is_blocked = is_blocked k past }

pub record Stands (t : Table) (c : Model) (past : Past) : Type 0 where
  pub moment : t.moment ≡ now past
  pub count : length t.controls ≡ length c.controls
  pub each : (k : ℕ) → k < length c.controls → control_at t.controls k ≡ at_past c k past

-- what is put for a where a termination of control k is due for an association
abbrev pub put_for : ℕ → ℕ → Bool → Option ℕ → List Waiting
put_for a k good None = []
put_for a k good (Some b) = if b == a then ending k good ∷ [] else []

-- the point of a step, with what came of it
abbrev pub point_of : ℕ → ℕ → Deed → Point
point_of step moment d = record { moment = moment; step = step; deed = d }
