-- What the associations stand for: those that are open up to a point, and what waits for each.
use Rattle.std.specs.Prelude.{◌≡◌, ℕ, List, length, map, Option, None, Some}
use Rattle.std.specs.Option.{option_map}
use Rattle.bay_model.specs.Model.{Model}
use Rattle.bay_model.specs.Points.{Deed, opened, lost, took, terminated, Past}
use Rattle.bay_model.specs.Associations as model
use Rattle.bay_model.specs.Waiting as queue
use Rattle.assoc_table.specs.declared.waiting.Ends.{Ends}
use Rattle.assoc_table.specs.declared.waiting.Waiting.{Waiting}
use Rattle.assoc_table.specs.declared.waiting.Waiting.TheVariants.{Reply, Termination}
use Rattle.assoc_table.specs.Seats.{Row}
use Rattle.assoc_table.specs.Tables.{IsNumber, row_of}

abbrev pub ends_of : Ends → model.Ends
ends_of e = record { opener = e.opener.0; writer = e.writer.0; size = e.size }

abbrev pub waiting_of : Waiting → queue.Waiting
waiting_of (Reply output) = queue.reply output
waiting_of (Termination k good) = queue.ending k.0 good

-- where it is open, its address is this one
abbrev pub HasAddress : Option Ends → List ℕ → Type 0
HasAddress None owner = Unit {0}
HasAddress (Some e) owner = e.owner ≡ owner

-- association a
pub record StandsAt (row : Row) (c : Model) (a : ℕ) (past : Past) : Type 0 where
  pub ends : option_map ends_of row.ends ≡ model.ends a past
  pub owner : HasAddress row.ends (model.address a past)
  pub waiting : map waiting_of row.waiting ≡ queue.waiting c a past

pub record Stands (rows : List Row) (c : Model) (past : Past) : Type 0 where
  pub count : length rows ≡ 16
  pub each : (a : ℕ) → IsNumber a → StandsAt (row_of rows a) c a past

-- a point that opens and loses no association, and takes nothing that waits
abbrev pub IsPlain : Deed → Type 0
IsPlain (opened a opener writer size owner) = ⊥
IsPlain (lost a) = ⊥
IsPlain (took a) = ⊥
IsPlain (terminated a k) = ⊥
IsPlain _ = Unit {0}
