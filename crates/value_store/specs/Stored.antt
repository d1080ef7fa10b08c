-- The values of attributes by their numbers, and what comes of setting one (IEC 61850-7-2, SetDataValues).
use Rattle.std.specs.Prelude.{ℕ, ◌<◌, length, Bool, false, not, ◌&&◌, List, Result, Ok, Err, slice_index_or, if◌then◌else◌}
use Rattle.sv_base.specs.Same.{is_same}
use Rattle.sv_base.specs.declared.value.Value.{Value}
use Rattle.sv_base.specs.declared.value.Value.TheVariants as kinds
use Rattle.bay_model.specs.Model.{truth}
use Rattle.sv_base.specs.Kinds.{is_kind, is_in_range}
use Rattle.bay_rooms.specs.Slots.{Held}
use Rattle.value_store.specs.declared.fault.SetFault.{SetFault}
use Rattle.value_store.specs.declared.fault.SetFault.TheVariants as faults
use Rattle.value_store.specs.declared.store.Changed.{Changed}
use Rattle.value_store.specs.declared.store.Cell.{Cell}
use Rattle.value_store.specs.Written.{IsShort}
use Rattle.sv_base.specs.declared.numbers.AttrId.{AttrId}
use Rattle.std.specs.List.{All}

-- an attribute: its value, its kind, and whether clients may write it
pub record Stored : Type 0 where
  pub held : Held
  pub is_writable : Bool

abbrev pub stored : Cell → Stored
stored c = record { held = c.slot; is_writable = c.is_writable }

-- what a number of no attribute has is of no account
abbrev pub no_attribute : Stored
no_attribute = record { held = record { value = kinds.Other; kind = truth }; is_writable = false }

abbrev pub attribute : List Stored → ℕ → Stored
attribute all x = slice_index_or all x no_attribute

-- whether the value differs from the one before, or the first refusal
abbrev pub outcome : Stored → Value → Bool → Result Changed SetFault
outcome s v by_client =
    if is_kind s.held.kind v then
    (if by_client && not s.is_writable then Err faults.ReadOnly else
    (if is_in_range s.held.kind v then Ok (record { differs = not (is_same v s.held.value) }) else Err faults.TooLong))
    else Err faults.Kind

-- the attribute with another value
abbrev pub with_value : Value → Stored → Stored
with_value v s = record { held = record { value = v; kind = s.held.kind }; is_writable = s.is_writable }

-- the number is that of an attribute, whose value is short enough to be spelled
abbrev pub IsStored : List Stored → AttrId → Type 0
IsStored all x = (x.0 < length all) × IsShort (attribute all x.0).held.value

abbrev pub AreStored : List Stored → List AttrId → Type 0
AreStored all attrs = All (IsStored all) attrs
