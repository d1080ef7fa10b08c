-- What comes of a point for a report block, in two parts: what its moment brings, and then its deed (IEC 61850-7-2, BRCB
-- attributes BufTm, IntgPd, GI and PurgeBuf).
use Rattle.std.specs.Prelude.{◌≡◌, ℕ, Bool, true, false, ◌==◌, ◌||◌, List, [], ◌∷◌, ◌++◌, map, Option, None, Some, unwrap_or, if◌then◌else◌}
use Rattle.std.specs.Option.{option_map_or}
use Rattle.bay_model.specs.Model.{Model}
use Rattle.bay_model.specs.Points.{Deed, Past}
use Rattle.bay_model.specs.Parameters.{purges, is_purging_change, is_interrogation}
use Rattle.bay_model.specs.Breaks.{is_period_over}
use Rattle.bay_model.specs.Notes.{Kept, note, all_members, no_reason}
use Rattle.brcb_state.specs.Standing.{after_deed, writers_address, OpensNoEnabler}
use Rattle.entry_ring.specs.Ringed.{Ringed, after_entry, after_purge}
use Rattle.window_core.specs.Pieces.{Piece, octets_of}
use Rattle.window_core.specs.Windows.{Gathered, Windowed, empty, closed, over_at, after_time, after_event, closed_by}
use Rattle.window_core.specs.Standing.{Body, body_of, piece_of}
use Rattle.window_core.specs.Points.{at}
use Rattle.report_block.specs.declared.block.ReportBlock.{ReportBlock}
use Rattle.report_block.specs.Standing.{AreKeptMembers}

-- a buffer after entries, one after the other
abbrev pub after_bodies : Ringed → List Body → Ringed
after_bodies r [] = r
after_bodies r (e ∷ es) = after_bodies (after_entry r (record { moment = e.moment; step = e.step; kept = e.kept })) es

abbrev pub purged_if : Bool → Ringed → Ringed
purged_if true r = after_purge r
purged_if false r = r

-- the entry of members at their own moment
abbrev pub body_at : ℕ → ℕ → List Piece → Body
body_at now step ps = record { moment = now; step = step; kept = octets_of ps }

-- ---- time

-- an integrity period of the block ended between the moments was and now
abbrev pub is_due : ℕ → ℕ → ReportBlock → Bool
is_due was now part = option_map_or (λ o. is_period_over part.block.options o was now) part.origin false

abbrev pub origin_after : ℕ → ReportBlock → Option ℕ
origin_after now part = if part.block.options.intg_pd == 0 then part.origin else Some (unwrap_or part.origin now)

-- where the time is due all that is gathered closes, and the integrity entry of all members follows; else what is over closes
abbrev pub arrived_if : Bool → ℕ → ℕ → List Piece → ReportBlock → ReportBlock
arrived_if true now step all part = record part { window = closed part.window; ring = after_bodies part.ring (body_of step part.window.gathered ++ body_at now step all ∷ []); origin = origin_after now part }
arrived_if false now step all part = record part { window = after_time now part.window; ring = after_bodies part.ring (body_of step (over_at now part.window)); origin = origin_after now part }

-- Time has passed from the moment was to now, the moment of a step: all are all members of the data set, with their values.
abbrev pub arrived : ℕ → ℕ → ℕ → List Piece → ReportBlock → ReportBlock
arrived was now step all part = arrived_if (is_due was now part) now step all part

-- ---- the deed

-- the address of who wrote; the members that it is an event of, and all members where it is a general interrogation; whether it is one, whether it purges
-- the buffer, and whether that is by a change of a parameter
pub record Coming : Type 0 where
  pub owner : List ℕ
  pub note : List Piece
  pub general : Bool
  pub all : List Piece
  pub purge : Bool
  pub change : Bool

-- it doesn't touch the block's entries
abbrev pub untouched : Coming
untouched = record { owner = []; note = []; general = false; all = []; purge = false; change = false }

-- an event of these members
abbrev pub noting : List Piece → Coming
noting ps = record untouched { note = ps }

abbrev pub after_note : ℕ → List Piece → Windowed → Windowed
after_note now [] w = w
after_note now (p ∷ ps) w = after_event now (p ∷ ps) w

abbrev pub closed_at_note : ℕ → List Piece → Windowed → Option Gathered
closed_at_note now [] w = None
closed_at_note now (p ∷ ps) w = closed_by now (p ∷ ps) w

-- what is gathered after it, under the buffer time that is then, and what closes
abbrev pub window_after : Bool → ℕ → List Piece → ℕ → Windowed → Windowed
window_after true now ps buf_tm w = empty w.members buf_tm
window_after false now ps buf_tm w = after_note now ps w

abbrev pub closed_at : Bool → ℕ → List Piece → Windowed → Option Gathered
closed_at true now ps w = w.gathered
closed_at false now ps w = closed_at_note now ps w

abbrev pub general_body : ℕ → ℕ → Coming → List Body
general_body now step k = if k.general then body_at now step k.all ∷ [] else []

-- the deed d at the moment and the number of its step, for block b
abbrev pub came : ℕ → Deed → ℕ → ℕ → Coming → ReportBlock → ReportBlock
came b d now step k part = record part {
  block = after_deed b d part.ring.front now k.owner part.block;
  ring = purged_if k.purge (after_bodies part.ring (body_of step (closed_at (k.general || k.purge) now k.note part.window) ++ general_body now step k));
  window = window_after (k.general || k.purge) now k.note (after_deed b d part.ring.front now k.owner part.block).options.buf_tm part.window;
  origin = if k.change then Some now else part.origin;
}

-- the pieces are those of members of the model, which can be read
pub record AreOf (ps : List Piece) (ks : List Kept) : Type 0 where
  pub are : ps ≡ map piece_of ks
  pub readable : AreKeptMembers ks

-- what comes of deed d for block b is what the model says
pub record IsComing (k : Coming) (c : Model) (b m n : ℕ) (d : Deed) (before : Past) : Type 0 where
  pub address : k.owner ≡ writers_address d before
  pub opens : OpensNoEnabler b d before
  pub note : AreOf k.note (note c b (at n m d) before)
  pub general : k.general ≡ is_interrogation b d
  pub all : is_interrogation b d ≡ true → AreOf k.all (all_members c b (record no_reason { gi = true }) before (at n m d ∷ before))
  pub purge : k.purge ≡ purges c b d before
  pub change : k.change ≡ is_purging_change c b d before
