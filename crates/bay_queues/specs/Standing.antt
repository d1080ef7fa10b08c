-- What they stand for: the associations and the controls of a history, up to a point.
use Rattle.std.specs.Prelude.{ℕ, Bool, List, [], ◌∷◌, Option, None, Some}
use Rattle.sv_base.specs.declared.numbers.CtlNo.{CtlNo}
use Rattle.bay_model.specs.declared.answer.Output.{Output}
use Rattle.bay_model.specs.Model.{Model}
use Rattle.bay_model.specs.Points.{Deed, Past}
use Rattle.assoc_table.specs.declared.waiting.Waiting.TheVariants.{Termination}
use Rattle.assoc_table.specs.Coming.{Coming, came, nothing_put}
use Rattle.assoc_table.specs.Standing.{Stands as AssociationsStand}
use Rattle.control_core.specs.Standing.{Stands as ControlsStand}
use Rattle.control_core.specs.Tables.{after_deed}
use Rattle.bay_queues.specs.Queued.{Queued}
use Rattle.bay_queues.specs.Taken.{reply_and}

pub record Stands (q : Queued) (c : Model) (past : Past) : Type 0 where
  pub associations : AssociationsStand q.rows c past
  pub controls : ControlsStand q.table c past

-- what comes to wait at a Done, and at a reply
abbrev pub coming_of : Option ℕ → CtlNo → Bool → Coming
coming_of None k good = nothing_put
coming_of (Some a) k good = record { a = a; items = Termination k good ∷ [] }

abbrev pub reply_coming : ℕ → Output → List CtlNo → Coming
reply_coming a output ks = record { a = a; items = reply_and output ks }

-- after what came of a point
abbrev pub passed_by : Deed → Coming → Queued → Queued
passed_by d k q = record { rows = came d k q.rows; table = after_deed d q.table }
