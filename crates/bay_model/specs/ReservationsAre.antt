-- What a reservation is in the words of its rule: by the accepted writes since the reserving one, each with the first loss of
-- its association after it (IEC 61850-7-2, ResvTms; the rule is this profile's own).
use Rattle.std.specs.Prelude.{◌≡◌, ◌≤◌, ℕ, ◌+◌, ◌*◌, max, Bool, true, false, not, ◌&&◌, ◌||◌, ◌==◌, nat_le, pos, List, [], ◌∷◌, ◌++◌, map, Option, None, Some, is_none, if◌then◌else◌}
use Rattle.sv_base.specs.declared.value.Value.TheVariants as kinds
use Rattle.sv_base.specs.declared.components.Comp.TheVariants.{ResvTms}
use Rattle.bay_model.specs.Points.{Deed, wrote, lost, Point, Past, now}
use Rattle.bay_model.specs.Associations.{address}
use Rattle.bay_model.specs.Reservations.{Reservation, reservation}

-- an accepted write: whose, and the moment of the first loss of that association after it, if there is one
pub record Written : Type 0 where
  pub by : ℕ
  pub first : Option ℕ

abbrev pub lost_at : ℕ → ℕ → Written → Written
lost_at moment a w = if (w.by == a) && is_none w.first then record w { first = Some moment } else w

abbrev pub writes_after : ℕ → ℕ → Deed → List Written → List Written
writes_after b moment (wrote a k comp v) was = if k == b then record { by = a; first = None } ∷ was else was
writes_after b moment (lost a) was = map (lost_at moment a) was
writes_after b moment _ was = was

-- the accepted writes to block b from a's reserving write on, which past ends with, at these points that follow it
abbrev pub writes_since : ℕ → ℕ → Past → List Point → List Written
writes_since b a past [] = record { by = a; first = None } ∷ []
writes_since b a past (p ∷ ps) = writes_after b (now (p ∷ (ps ++ past))) p.deed (writes_since b a past ps)

-- each of them has such a loss; and the moment of the latest of these losses
abbrev pub are_lost : List Written → Bool
are_lost [] = true
are_lost (w ∷ ws) = not (is_none w.first) && are_lost ws

abbrev pub moment_in : Option ℕ → ℕ
moment_in None = 0
moment_in (Some moment) = moment

abbrev pub latest : List Written → ℕ
latest [] = 0
latest (w ∷ ws) = max (moment_in w.first) (latest ws)

-- the block is loose before a point at this moment, and n seconds are over since the latest loss
abbrev pub is_over : ℕ → ℕ → List Written → Bool
is_over n moment ws = are_lost ws && nat_le (latest ws + 1000 * n) moment

-- it was so at one of the points that follow the reserving write
abbrev pub has_run_out : ℕ → ℕ → ℕ → Past → List Point → Bool
has_run_out b a n past [] = false
has_run_out b a n past (p ∷ ps) = has_run_out b a n past ps || is_over n (now (p ∷ (ps ++ past))) (writes_since b a past ps)

-- no ResvTms of b was accepted at these points
abbrev pub is_reserving : ℕ → Deed → Bool
is_reserving b (wrote a k ResvTms v) = k == b
is_reserving b _ = false

abbrev pub NoneReserves : ℕ → List Point → Type 0
NoneReserves b [] = Unit {0}
NoneReserves b (p ∷ ps) = NoneReserves b ps × (is_reserving b p.deed ≡ false)

-- After the last accepted ResvTms, n above 0 by a, the block is reserved exactly where the reservation hasn't run out, for the
-- address that a had there, with n seconds.
abbrev pub ReservationsAre : Type 0
ReservationsAre = (b a m i n : ℕ) (ps : List Point) (before : Past) → 1 ≤ n → NoneReserves b ps
    → (is_none (reservation b (ps ++ record { moment = m; step = i; deed = wrote a b ResvTms (kinds.Int (pos n)) } ∷ before))
    ≡ has_run_out b a n (record { moment = m; step = i; deed = wrote a b ResvTms (kinds.Int (pos n)) } ∷ before) ps)
    × ((r : Reservation) → reservation b (ps ++ record { moment = m; step = i; deed = wrote a b ResvTms (kinds.Int (pos n)) } ∷ before) ≡ Some r
    → (r.owner ≡ address a before) × (r.seconds ≡ n))
