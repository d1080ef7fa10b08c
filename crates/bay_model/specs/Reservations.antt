-- Who has reserved a block, and for how long (IEC 61850-7-2, BRCB attributes ResvTms and Owner; when a reservation begins
-- to run out, and what it refuses, is this profile's own).
use Rattle.std.specs.Prelude.{ℕ, ◌+◌, ◌*◌, Bool, false, not, ◌&&◌, ◌==◌, nat_le, nat_lt, int_le, pos, nat_abs, List, [], ◌∷◌, Option, None, Some, if◌then◌else◌}
use Rattle.std.specs.Option.{option_map_or, option_map, option_and_then}
use Rattle.std.specs.List.{filter}
use Rattle.std.specs.Str.{bytes_eq}
use Rattle.sv_base.specs.declared.value.Value.{Value}
use Rattle.sv_base.specs.declared.value.Value.TheVariants as kinds
use Rattle.sv_base.specs.declared.components.Comp.{Comp}
use Rattle.sv_base.specs.declared.components.Comp.TheVariants.{ResvTms}
use Rattle.bay_model.specs.Points.{Deed, wrote, lost, Past, now}
use Rattle.bay_model.specs.Associations.{address}
use Rattle.bay_model.specs.Breaks.{is_empty}

-- A reservation: the address that it is for, and its seconds; the associations whose writes of the block were accepted since
-- it was made, its own write among them, and that weren't lost since their last, ascending; and the moment of the last loss
-- before which there was one of these, or else that of the reserving write. Where there is none of them it is loose, since
-- that moment.
pub record Reservation : Type 0 where
  pub owner : List ℕ
  pub seconds : ℕ
  pub writers : List ℕ
  pub since : ℕ

-- a number among others that ascend, once
abbrev pub with_number : ℕ → List ℕ → List ℕ
with_number a [] = a ∷ []
with_number a (e ∷ es) = if nat_lt a e then a ∷ e ∷ es else (if a == e then e ∷ es else e ∷ with_number a es)

abbrev pub without_number : ℕ → List ℕ → List ℕ
without_number a es = filter (λ e. not (e == a)) es

-- it is loose, and its seconds are over
abbrev pub is_run_out : ℕ → Reservation → Bool
is_run_out moment r = is_empty r.writers && nat_le (r.since + 1000 * r.seconds) moment

abbrev pub unless_run_out : ℕ → Reservation → Option Reservation
unless_run_out moment r = if is_run_out moment r then None else Some r

-- what is left of it at a moment
abbrev pub lasting : ℕ → Option Reservation → Option Reservation
lasting moment was = option_and_then (unless_run_out moment) was

-- by an accepted ResvTms of a, whose address is owner: none by 0
abbrev pub reserved_by : ℕ → ℕ → List ℕ → Value → Option Reservation
reserved_by moment a owner (kinds.Int z) = if int_le (pos 1) z then Some (record { owner = owner; seconds = nat_abs z; writers = a ∷ []; since = moment }) else None
reserved_by moment a owner _ = None

abbrev pub with_writer : ℕ → Reservation → Reservation
with_writer a r = record r { writers = with_number a r.writers }

abbrev pub without_writer : ℕ → ℕ → Reservation → Reservation
without_writer moment a r = record r { writers = without_number a r.writers; since = if is_empty r.writers then r.since else moment }

-- after an accepted write of a component by a, whose address is owner
abbrev pub reservation_by : ℕ → ℕ → List ℕ → Comp → Value → Option Reservation → Option Reservation
reservation_by moment a owner ResvTms v was = reserved_by moment a owner v
reservation_by moment a owner _ v was = option_map (with_writer a) was

abbrev pub reservation_after : ℕ → ℕ → Past → Deed → Option Reservation → Option Reservation
reservation_after b moment before (wrote a k comp v) was = if k == b then reservation_by moment a (address a before) comp v was else was
reservation_after b moment before (lost a) was = option_map (without_writer moment a) was
reservation_after b moment before _ was = was

-- The reservation of block b: that of the last accepted write of its ResvTms, until it runs out. It runs out at the first
-- point that finds it loose and its seconds over.
abbrev pub reservation : ℕ → Past → Option Reservation
reservation b [] = None
reservation b (p ∷ before) = reservation_after b (now (p ∷ before)) before p.deed (lasting (now (p ∷ before)) (reservation b before))

-- a reservation is for another address than this one
abbrev pub is_for_another : List ℕ → Reservation → Bool
is_for_another owner r = not (bytes_eq r.owner owner)

-- block b is reserved for another address than a's
abbrev pub is_reserved_for_another : ℕ → ℕ → Past → Bool
is_reserved_for_another b a past = option_map_or (is_for_another (address a past)) (reservation b past) false
