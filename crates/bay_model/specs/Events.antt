-- The events of a block: the points with a note that isn't empty, the newest first (IEC 61850-7-2, TriggerConditions).
use Rattle.std.specs.Prelude.{ℕ, Bool, false, ◌||◌, List, [], ◌∷◌, if◌then◌else◌}
use Rattle.bay_model.specs.Model.{Model}
use Rattle.bay_model.specs.Points.{Point, Past, now}
use Rattle.bay_model.specs.Parameters.{parameters_at}
use Rattle.bay_model.specs.Notes.{note, Kept}
use Rattle.bay_model.specs.Breaks.{breaks, is_empty}

-- a point whose note isn't empty: `now` and the note there; whether a point broke the block after the event before, up
-- to this one; and the BufTm there
pub record Event : Type 0 where
  pub moment : ℕ
  pub note : List Kept
  pub is_cut : Bool
  pub buf_tm : ℕ

-- some point after the last event breaks block b
abbrev pub is_broken : Model → ℕ → Past → Bool
is_broken c b [] = false
is_broken c b (p ∷ before) = if is_empty (note c b p before) then breaks c b p before || is_broken c b before else false

-- point p as an event of block b
abbrev pub event_of : Model → ℕ → Point → Past → Event
event_of c b p before = record { moment = now (p ∷ before); note = note c b p before; is_cut = breaks c b p before || is_broken c b before; buf_tm = (parameters_at c b before).buf_tm }

-- the events of block b, the newest first
abbrev pub events : Model → ℕ → Past → List Event
events c b [] = []
events c b (p ∷ before) = if is_empty (note c b p before) then events c b before else event_of c b p before ∷ events c b before
