-- What comes of a point for the associations (IEC 61850-7-2, the association model; ISO 9506-2, Initiate, Conclude and Abort).
use Rattle.std.specs.Prelude.{◌≡◌, ◌≢◌, ℕ, List, [], ◌∷◌, map}
use Rattle.bay_model.specs.Model.{Model}
use Rattle.bay_model.specs.Points.{Deed, opened, lost, took, terminated, Past}
use Rattle.bay_model.specs.Waiting.{put_by}
use Rattle.assoc_table.specs.declared.waiting.Waiting.{Waiting}
use Rattle.assoc_table.specs.Seats.{Row}
use Rattle.assoc_table.specs.Tables.{IsNumber, started, ended, extended, taken}
use Rattle.assoc_table.specs.Standing.{waiting_of}

-- what is put for an association after what waits
pub record Coming : Type 0 where
  pub a : ℕ
  pub items : List Waiting

-- nothing is put
abbrev pub nothing_put : Coming
nothing_put = record { a = 0; items = [] }

abbrev pub put_for : ℕ → List Waiting → List Row → List Row
put_for a [] rows = rows
put_for a (w ∷ ws) rows = extended rows a (w ∷ ws)

-- an association is opened or ended, its oldest output is taken, or what the deed puts comes to wait
abbrev pub came : Deed → Coming → List Row → List Row
came (opened a opener writer size owner) k rows = started rows a (record { opener = record { 0 = opener }; writer = record { 0 = writer }; size = size; owner = owner })
came (lost a) k rows = ended rows a
came (took a) k rows = taken rows a
came (terminated a control) k rows = taken rows a
came _ k rows = put_for k.a k.items rows

-- the association that a deed opens, ends or takes from has a number
abbrev pub IsNumbered : Deed → Type 0
IsNumbered (opened a opener writer size owner) = IsNumber a
IsNumbered (lost a) = IsNumber a
IsNumbered (took a) = IsNumber a
IsNumbered (terminated a control) = IsNumber a
IsNumbered _ = Unit {0}

-- the deed of step n puts this, for one association alone
pub record IsComing (k : Coming) (c : Model) (n : ℕ) (d : Deed) (before : Past) : Type 0 where
  pub number : IsNumbered d
  pub puts : put_by c k.a n d before ≡ map waiting_of k.items
  pub for_one : k.items ≢ [] → IsNumber k.a
  pub for_no_other : (e : ℕ) → e ≢ k.a → put_by c e n d before ≡ []
