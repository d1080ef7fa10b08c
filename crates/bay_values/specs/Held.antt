-- What is so of the values of a configuration's attributes between steps.
use Rattle.std.specs.Prelude.{◌≡◌, ◌<◌, ℕ, true, List, length}
use Rattle.sv_base.specs.declared.config.Config.{Config}
use Rattle.sv_base.specs.Kinds.{kind_of, is_kind, is_in_range}
use Rattle.bay_rooms.specs.Slots.{Held}
use Rattle.bay_model.specs.Attributes.{attributes}
use Rattle.bay_model.specs.Lookups.{attr_of}
use Rattle.bay_model.specs.Named.{configured_model}
use Rattle.object_model.specs.Fits.{is_sound}
use Rattle.value_store.specs.Opened.{is_writable}
use Rattle.value_store.specs.Stored.{Stored, attribute}
use Rattle.setting_groups.specs.Frames.{IsFit}
use Rattle.setting_groups.specs.Grouped.{Grouped}
use Rattle.bay_config.specs.Servable.{attr_type}

-- a value of its kind, within its range, with visible texts and parts of a second below one
pub record IsSoundCell (h : Held) : Type 0 where
  pub kind : is_kind h.kind h.value ≡ true
  pub range : is_in_range h.kind h.value ≡ true
  pub sound : is_sound h.value ≡ true

-- each attribute of the configuration has a value of its type, and the right of clients to write it
pub record AreHeld (c : Config) (stored : List Stored) : Type 0 where
  pub count : length stored ≡ length (attributes c)
  pub kinds : (x : ℕ) → x < length stored → (attribute stored x).held.kind ≡ kind_of (attr_type c x)
  pub sound : (x : ℕ) → x < length stored → IsSoundCell (attribute stored x).held
  pub writable : (x : ℕ) → x < length stored → (attribute stored x).is_writable ≡ is_writable (attr_of (configured_model c) x).access

-- the setting groups are those of the configuration, and all that they hold is sound
abbrev pub AreGrouped : Config → Grouped → Type 0
AreGrouped c groups = IsFit c IsSoundCell groups
