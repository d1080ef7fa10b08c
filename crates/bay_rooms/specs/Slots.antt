-- A value in memory that was allocated before, and what comes of setting it.
use Rattle.std.specs.Prelude.{◌≡◌, ◌⊎◌, ℕ, length, Bool, not, Result, Ok, Err, if◌then◌else◌}
use Rattle.sv_base.specs.Same.{is_same}
use Rattle.sv_base.specs.declared.value.Value.{Value}
use Rattle.bay_rooms.specs.declared.slot.Misfit.{Misfit}
use Rattle.bay_rooms.specs.declared.slot.Misfit.TheVariants as misfits
use Rattle.bay_rooms.specs.declared.slot.Cell.{Cell}
use Rattle.bay_rooms.specs.declared.slot.Cell.TheVariants as cells
use Rattle.bay_rooms.specs.declared.slot.ValueRef.{ValueRef}
use Rattle.bay_rooms.specs.declared.slot.ValueRef.TheVariants as refs
use Rattle.sv_base.specs.declared.types.TypeOf.{TypeOf}
use Rattle.sv_base.specs.declared.types.TypeOf.TheVariants as types
use Rattle.sv_base.specs.declared.value.Value.TheVariants as kinds
use Rattle.sv_base.specs.Kinds.{Kind, truth, int, uint, bits, time, stamp, text, octets, is_kind, is_in_range}

-- the value, and the kind of what may be set
pub record Held : Type 0 where
  pub value : Value
  pub kind : Kind

-- Whether a value that is set differs from the one before; it is refused where it is of another kind, and then where it is
-- out of range.
abbrev pub set_over : Held → Value → Result Bool Misfit
set_over held v = if is_kind held.kind v then (if is_in_range held.kind v then Ok (not (is_same v held.value)) else Err misfits.Range) else Err misfits.Kind

-- the bits of a number's type
abbrev pub IsWidth : ℕ → Type 0
IsWidth w = (w ≡ 8) ⊎ (w ≡ 16) ⊎ (w ≡ 32) ⊎ (w ≡ 64)

-- the types of attributes: no structure, and not the EntryID
abbrev pub IsSettable : TypeOf → Type 0
IsSettable (types.Int w) = IsWidth w
IsSettable (types.Uint w) = IsWidth w
IsSettable (types.Struct f) = ⊥
IsSettable types.EntryId = ⊥
IsSettable _ = Unit {0}

abbrev pub type_width : TypeOf → ℕ
type_width (types.Int w) = w
type_width (types.Uint w) = w
type_width _ = 8

abbrev pub type_most : TypeOf → ℕ
type_most (types.Text most) = most
type_most (types.Octets most) = most
type_most _ = 0

-- the value in a cell, and its kind
abbrev pub held_in : Cell → Held
held_in (cells.Bool b) = record { value = kinds.Bool b; kind = truth }
held_in (cells.Int n) = record { value = kinds.Int n.value; kind = int n.width }
held_in (cells.Uint n) = record { value = kinds.Uint n.value; kind = uint n.width }
held_in (cells.Bits b) = record { value = kinds.Bits b.items; kind = bits (length b.items) }
held_in (cells.Time t) = record { value = kinds.Time t; kind = time }
held_in (cells.Stamp t) = record { value = kinds.Stamp t; kind = stamp }
held_in (cells.Text t) = record { value = kinds.Text t.items; kind = text t.room }
held_in (cells.Octets o) = record { value = kinds.Octets o.items; kind = octets o.room }

-- a number has the bits of a type
abbrev pub IsCell : Cell → Type 0
IsCell (cells.Int n) = IsWidth n.width
IsCell (cells.Uint n) = IsWidth n.width
IsCell _ = Unit {0}

-- the value that is lent
abbrev pub lent : ValueRef → Value
lent (refs.Bool b) = kinds.Bool b
lent (refs.Int z) = kinds.Int z
lent (refs.Uint n) = kinds.Uint n
lent (refs.Bits b) = kinds.Bits b.now
lent (refs.Time t) = kinds.Time t
lent (refs.Stamp t) = kinds.Stamp t
lent (refs.Text t) = kinds.Text t.now
lent (refs.Octets o) = kinds.Octets o.now
