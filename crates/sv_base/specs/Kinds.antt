-- The kinds of values, and which values are of a kind and within its range (IEC 61850-7-2, BasicTypes; IEC 61850-8-1,
-- their MMS types).
use Rattle.std.specs.Prelude.{ℕ, ◌-◌, ◌^◌, Bool, true, false, ◌&&◌, ◌==◌, nat_le, nat_lt, length, int_le, pos, neg_ℤ}
use Rattle.sv_base.specs.declared.types.TypeOf.{TypeOf}
use Rattle.sv_base.specs.declared.types.TypeOf.TheVariants as types
use Rattle.sv_base.specs.declared.value.Value.{Value}
use Rattle.sv_base.specs.declared.value.Value.TheVariants as kinds

-- the basic type of an attribute or a component (IEC 61850-7-2, BasicTypes), with its bits or its greatest length
pub data Kind : Type 0 where
  truth : Kind
  int : ℕ → Kind
  uint : ℕ → Kind
  bits : ℕ → Kind
  time : Kind
  stamp : Kind
  text : ℕ → Kind
  octets : ℕ → Kind
  entry_id : Kind

-- the kind of a type; a structure is of no attribute's kind
abbrev pub kind_of : TypeOf → Kind
kind_of types.Bool = truth
kind_of (types.Int w) = int w
kind_of (types.Uint w) = uint w
kind_of (types.Bits n) = bits n
kind_of types.Time = time
kind_of types.Stamp = stamp
kind_of (types.Text most) = text most
kind_of (types.Octets most) = octets most
kind_of types.EntryId = entry_id
kind_of (types.Struct fields) = truth

-- the type of a kind
abbrev pub type_of : Kind → TypeOf
type_of truth = types.Bool
type_of (int w) = types.Int w
type_of (uint w) = types.Uint w
type_of (bits n) = types.Bits n
type_of time = types.Time
type_of stamp = types.Stamp
type_of (text most) = types.Text most
type_of (octets most) = types.Octets most
type_of entry_id = types.EntryId

-- the value is of the kind; a bit string's length, and an EntryID's, belong to it
abbrev pub is_kind : Kind → Value → Bool
is_kind truth (kinds.Bool b) = true
is_kind (int w) (kinds.Int z) = true
is_kind (uint w) (kinds.Uint n) = true
is_kind (bits n) (kinds.Bits b) = length b == n
is_kind time (kinds.Time t) = true
is_kind stamp (kinds.Stamp t) = true
is_kind (text most) (kinds.Text t) = true
is_kind (octets most) (kinds.Octets o) = true
is_kind entry_id (kinds.Octets o) = length o == 8
is_kind _ _ = false

-- the number is in the range of its type, the text or the octets no longer than their greatest length
abbrev pub is_in_range : Kind → Value → Bool
is_in_range (int w) (kinds.Int z) = int_le (neg_ℤ (pos (2 ^ (w - 1)))) z && int_le z (pos (2 ^ (w - 1) - 1))
is_in_range (uint w) (kinds.Uint n) = nat_lt n (2 ^ w)
is_in_range (text most) (kinds.Text t) = nat_le (length t) most
is_in_range (octets most) (kinds.Octets o) = nat_le (length o) most
is_in_range _ v = true
