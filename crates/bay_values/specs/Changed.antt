-- What a step of the process makes of the values of attributes, and what is handed on of each attribute that it set
-- (IEC 61850-7-2, DataAttribute and TriggerConditions).
use Rattle.std.specs.Prelude.{◌≡◌, ◌≢◌, ◌<◌, ℕ, not, true, List, length, slice_index_or, Option, None, Some, Result, Ok, Err}
use Rattle.std.specs.Option.{option_map}
use Rattle.std.specs.List.{All}
use Rattle.sv_base.specs.Same.{is_same}
use Rattle.sv_base.specs.declared.config.Config.{Config}
use Rattle.sv_base.specs.declared.value.Value.{Value}
use Rattle.bay_model.specs.declared.flags.Change.{Change}
use Rattle.bay_model.specs.declared.step.Setting.{Setting}
use Rattle.bay_model.specs.Attributes.{attributes}
use Rattle.sv_base.specs.Kinds.{kind_of, is_kind, is_in_range}
use Rattle.bay_model.specs.Lookups.{attr_of}
use Rattle.bay_model.specs.Named.{configured_model}
use Rattle.bay_model.specs.Settings.{set_to}
use Rattle.object_model.specs.Fits.{is_sound}
use Rattle.object_model.specs.Tables.{flags_of}
use Rattle.value_store.specs.declared.fault.SetFault.{SetFault}
use Rattle.value_store.specs.declared.store.Changed.{Changed}
use Rattle.value_store.specs.Stored.{Stored, attribute, with_value}
use Rattle.trigger_core.specs.Noted.{change_of}
use Rattle.bay_config.specs.Servable.{attr_type}

-- an attribute with the value that it is given, if any
abbrev pub given : Option Value → Stored → Stored
given None was = was
given (Some v) was = with_value v was

-- what the settings make of attribute x: of several that name it the last one counts
abbrev pub last_set : List Setting → ℕ → Stored → Stored
last_set settings x was = given (set_to x settings) was

-- attribute x was given value v: its trigger conditions, and whether the value differs from the one that was stored
abbrev pub change_from : Config → List Stored → ℕ → Value → Change
change_from c stored x v = record { attr = record { 0 = x }; flags = flags_of (attr_of (configured_model c) x); differs = not (is_same v (attribute stored x).held.value) }

-- the changes are those of the settings: one for each attribute that they give a value
abbrev pub AreMade : Config → List Stored → List Setting → List Change → Type 0
AreMade c stored settings changes = (x : ℕ) → change_of changes (record { 0 = x }) ≡ option_map (change_from c stored x) (set_to x settings)

-- no two changes are of one attribute
abbrev pub AreDistinct : List Change → Type 0
AreDistinct changes = (k j : ℕ) (d : Change) → k < j → j < length changes → (slice_index_or changes k d).attr.0 ≢ (slice_index_or changes j d).attr.0

-- the setting is of an attribute that is there, of its kind and within its range
pub record IsFit (stored : List Stored) (s : Setting) : Type 0 where
  pub there : s.attr.0 < length stored
  pub kind : is_kind (attribute stored s.attr.0).held.kind s.value ≡ true
  pub range : is_in_range (attribute stored s.attr.0).held.kind s.value ≡ true

abbrev pub AreFit : List Stored → List Setting → Type 0
AreFit stored settings = All (IsFit stored) settings

-- a value of attribute x's type and size, with visible texts and parts of a second below one
pub record IsValueOf (c : Config) (x : ℕ) (v : Value) : Type 0 where
  pub kind : is_kind (kind_of (attr_type c x)) v ≡ true
  pub range : is_in_range (kind_of (attr_type c x)) v ≡ true
  pub sound : is_sound v ≡ true

-- the setting gives an attribute of the configuration a value of its type
pub record IsTyped (c : Config) (s : Setting) : Type 0 where
  pub there : s.attr.0 < length (attributes c)
  pub typed : IsValueOf c s.attr.0 s.value

abbrev pub AreTyped : Config → List Setting → Type 0
AreTyped c settings = All (IsTyped c) settings

-- what a setting is answered, whether it changed the value or not
abbrev pub without_change : Result Changed SetFault → Result (Unit {0}) SetFault
without_change (Ok changed) = Ok tt
without_change (Err fault) = Err fault
