-- The values that a configuration gives its attributes (IEC 61850-7-2, DataAttribute; SELECT-ACTIVE-SG for those under SG).
use Rattle.std.specs.Prelude.{◌≡◌, ◌≤◌, ℕ, ◌-◌, Bool, true, false, List, ◌++◌, map, flat_map, slice_get, unwrap_or, is_some, position, Some, if◌then◌else◌}
use Rattle.std.specs.List.{filter, All}
use Rattle.sv_base.specs.Same.{values_of}
use Rattle.sv_base.specs.declared.config.Config.{Config}
use Rattle.sv_base.specs.declared.config.AttrDef.{AttrDef}
use Rattle.sv_base.specs.declared.config.CtlDef.{CtlDef}
use Rattle.sv_base.specs.declared.value.Value.{Value}
use Rattle.sv_base.specs.declared.value.Value.TheVariants as kinds
use Rattle.bay_model.specs.Model as model
use Rattle.bay_model.specs.Model.{Access}
use Rattle.bay_model.specs.Attributes.{access_of}
use Rattle.bay_model.specs.Configured.{groups_defined}
use Rattle.sv_base.specs.Kinds.{kind_of, is_kind, is_in_range}
use Rattle.bay_model.specs.Generated.{Parameter, parameters}
use Rattle.bay_model.specs.NamedLines.{is_setting, domains}
use Rattle.std.specs.Str.{bytes_eq}
use Rattle.bay_rooms.specs.Slots.{IsSettable}
use Rattle.value_store.specs.Stored.{Stored}

abbrev pub is_writable : Access → Bool
is_writable model.writable = true
is_writable _ = false

abbrev pub is_written : AttrDef → Bool
is_written a = is_writable (access_of a.fc)

-- the place of its first value: under SG that of the group that is active at first
abbrev pub place_in : Config → AttrDef → ℕ
place_in c a = if is_setting a then (groups_defined c.groups a.domain).active - 1 else 0

abbrev pub value_in : AttrDef → ℕ → Value
value_in a place = unwrap_or (slice_get (values_of a.values) place) kinds.Other

-- the attribute of a line, with its value at a place
abbrev pub stored_line : AttrDef → ℕ → Bool → Stored
stored_line a place is_writable = record { held = record { value = value_in a place; kind = kind_of a.kind }; is_writable = is_writable }

-- the line has a value at the place, which is of its type and within its range
pub record HasValue (a : AttrDef) (place : ℕ) : Type 0 where
  pub settable : IsSettable a.kind
  pub value : Value
  pub there : slice_get (values_of a.values) place ≡ Some value
  pub kind : is_kind (kind_of a.kind) value ≡ true
  pub range : is_in_range (kind_of a.kind) value ≡ true

-- a CF attribute of a control, which nobody sets
abbrev pub stored_parameter : Parameter → Stored
stored_parameter p = record { held = record { value = p.value; kind = kind_of p.kind }; is_writable = false }

abbrev pub stored_control : CtlDef → List Stored
stored_control k = map stored_parameter (parameters k)

-- under SE, the value of the first group
abbrev pub stored_twin : AttrDef → Stored
stored_twin a = stored_line a 0 false

-- in the order of their numbers: the lines, the CF attributes of controls, the SE twins
abbrev pub opened : Config → List Stored
opened c = map (λ a. stored_line a (place_in c a) (is_written a)) c.attrs ++ (flat_map stored_control c.controls ++ map stored_twin (filter is_setting c.attrs))

-- Each line has the value that it begins with and that of its first group, and each control numbers of its range, as those
-- of a configuration's text have.
pub record IsStorable (c : Config) : Type 0 where
  pub lines : All (λ a. HasValue a (place_in c a)) c.attrs
  pub twins : All (λ a. HasValue a 0) c.attrs
  pub controls : All (λ (k : CtlDef). (k.model ≤ 4) × (k.class ≤ 1)) c.controls

-- the domain of each line is one of the configuration's
abbrev pub HasDomains : Config → Type 0
HasDomains c = All (λ (a : AttrDef). is_some (position (bytes_eq a.domain) (domains c)) ≡ true) c.attrs
