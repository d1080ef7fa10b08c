-- What the setting groups hold is fit for the values of their attributes.
use Rattle.std.specs.Prelude.{◌≡◌, ◌<◌, ℕ, List, length}
use Rattle.bay_model.specs.declared.step.Setting.{Setting}
use Rattle.value_store.specs.Stored.{Stored, attribute}
use Rattle.setting_groups.specs.Grouped.{Grouped, active_of, setting_at}

-- the SG attribute at a place among these is there, in a domain that is there, and of the kind of what its active group holds
pub record IsLoadable (stored : List Stored) (s : Grouped) (k : ℕ) : Type 0 where
  pub setting : k < length s.settings
  pub there : (setting_at s k).attr < length stored
  pub domain : (setting_at s k).domain < length s.domains
  pub kind : (active_of s k).kind ≡ (attribute stored (setting_at s k).attr).held.kind

abbrev pub AreLoadable : List Stored → Grouped → Type 0
AreLoadable stored s = (k : ℕ) → k < length s.settings → IsLoadable stored s k

-- it gets what the active group holds
abbrev pub active_setting : Grouped → ℕ → Setting
active_setting s k = record { attr = record { 0 = (setting_at s k).attr }; value = (active_of s k).value }
