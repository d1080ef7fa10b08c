-- The setting groups as they are configured (IEC 61850-7-2, SETTING-GROUP-CONTROL-BLOCK).
use Rattle.std.specs.Prelude.{◌≡◌, ◌<◌, ◌≤◌, ◌^◌, is_some, position, true, ℕ, ◌+◌, List, [], ◌∷◌, map, length, unwrap_or, Option, None, Some, slice_index_or, if◌then◌else◌}
use Rattle.std.specs.Option.{option_map}
use Rattle.std.specs.List.{All}
use Rattle.std.specs.Str.{bytes_eq}
use Rattle.sv_base.specs.Same.{values_of}
use Rattle.sv_base.specs.declared.config.Config.{Config}
use Rattle.sv_base.specs.declared.config.AttrDef.{AttrDef}
use Rattle.sv_base.specs.declared.config.SgDef.{SgDef}
use Rattle.sv_base.specs.declared.types.TypeOf.{TypeOf}
use Rattle.sv_base.specs.declared.value.Value.{Value}
use Rattle.sv_base.specs.declared.value.Value.TheVariants as kinds
use Rattle.sv_base.specs.Kinds.{kind_of}
use Rattle.bay_model.specs.Configured.{groups_defined}
use Rattle.sv_base.specs.Kinds.{is_kind, is_in_range}
use Rattle.bay_model.specs.Model.{Groups}
use Rattle.bay_model.specs.NamedLines.{is_setting, domains}
use Rattle.bay_rooms.specs.Slots.{Held, IsSettable}
use Rattle.setting_groups.specs.Grouped.{Domained, Settled, Grouped}

-- the value is of the type and within its range
pub record IsHeld (t : TypeOf) (v : Value) : Type 0 where
  pub settable : IsSettable t
  pub kind : is_kind (kind_of t) v ≡ true
  pub range : is_in_range (kind_of t) v ≡ true

-- the line has a value, and each is of its type
pub record HasValues (a : AttrDef) : Type 0 where
  pub some : 0 < length (values_of a.values)
  pub held : All (IsHeld a.kind) (values_of a.values)

abbrev pub held_as : TypeOf → Value → Held
held_as kind v = record { value = v; kind = kind_of kind }

abbrev pub slots_of : TypeOf → List Value → List Held
slots_of kind vs = map (held_as kind) vs

-- the first of the domains that is this one
abbrev pub place_at : List ℕ → List (List ℕ) → Option ℕ
place_at d [] = None
place_at d (x ∷ xs) = if bytes_eq d x then Some 0 else option_map (λ n. n + 1) (place_at d xs)

abbrev pub place_in : List (List ℕ) → List ℕ → ℕ
place_in domains d = unwrap_or (place_at d domains) 0

abbrev pub block_defined : Groups → Domained
block_defined g = record { count = g.count; active = g.active; edit = None; last = None }

abbrev pub setting_defined : ℕ → ℕ → AttrDef → Settled
setting_defined x d a = record { attr = x; domain = d; groups = slots_of a.kind (values_of a.values); copy = held_as a.kind (slice_index_or (values_of a.values) 0 kinds.Other) }

abbrev pub settings_from : List (List ℕ) → ℕ → List AttrDef → List Settled
settings_from domains x [] = []
settings_from domains x (a ∷ rest) = if is_setting a then setting_defined x (place_in domains a.domain) a ∷ settings_from domains (x + 1) rest else settings_from domains (x + 1) rest

abbrev pub opened : Config → List (List ℕ) → Grouped
opened c domains = record { domains = map (λ d. block_defined (groups_defined c.groups d)) domains; settings = settings_from domains 0 c.attrs }

-- a line under SG: its domain is there and has groups, and for each of them the line has a value
pub record IsSetting (c : Config) (a : AttrDef) : Type 0 where
  pub domain : is_some (position (bytes_eq a.domain) (domains c)) ≡ true
  pub some : 0 < (groups_defined c.groups a.domain).count
  pub values : length (values_of a.values) ≡ (groups_defined c.groups a.domain).count

-- what a configuration has whose groups are opened, as that of a text does
pub record IsGrouped (c : Config) : Type 0 where
  pub values : All HasValues c.attrs
  pub settings : All (λ (a : AttrDef). is_setting a ≡ true → IsSetting c a) c.attrs
  pub groups : All (λ (g : SgDef). (1 ≤ g.active) × (g.active ≤ g.count)) c.groups
  pub there : All (λ (g : SgDef). is_some (position (bytes_eq g.domain) (domains c)) ≡ true) c.groups
  pub domains : length (domains c) < 2 ^ 32
  pub few : length c.attrs < 2 ^ 32
