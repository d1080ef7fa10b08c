-- The associations of a bay with its controls: what waits for each association, and what each control executes
-- (IEC 61850-7-2, the association model, the control class model and CommandTermination).
use Rattle.std.specs.Prelude.{◌≡◌, ◌≤◌, ℕ, List, map, length}
use Rattle.bay_model.specs.Model.{Control}
use Rattle.assoc_table.specs.Seats.{Row}
use Rattle.assoc_table.specs.Standing.{waiting_of}
use Rattle.assoc_table.specs.Tables.{IsNumber, row_of}
use Rattle.control_core.specs.Controls.{ControlState}
use Rattle.control_core.specs.Tables.{Table, control_at}
use Rattle.control_core.specs.TerminationsWait.{endings, due_for}

pub record Queued : Type 0 where
  pub rows : List Row
  pub table : Table

-- how many terminations of control k wait for an association
abbrev pub ends_in : ℕ → Row → ℕ
ends_in k row = endings k (map waiting_of row.waiting)

-- the termination of control k waits for an association once at most, and only where the command is its and has come to its end
abbrev pub AreDue : List Row → Table → Type 0
AreDue rows t = (a k : ℕ) → IsNumber a → ends_in k (row_of rows a) ≤ due_for a (control_at t.controls k).execution

pub record IsQueued (rows : List Row) (t : Table) : Type 0 where
  pub count : length rows ≡ 16
  pub few : length t.controls ≤ 64
  pub due : AreDue rows t

-- how the controls are configured, which never changes
abbrev pub configs : Table → List Control
configs t = map (λ (s : ControlState). s.config) t.controls
