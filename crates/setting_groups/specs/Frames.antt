-- What stays of the setting groups whatever clients and the process write: which SG attributes there are, with their domains, their
-- kinds and how many groups each has; and that all that they hold is of some sort.
use Rattle.std.specs.Prelude.{◌≡◌, ◌<◌, ℕ, true, List, map, length, Some, is_some}
use Rattle.std.specs.List.{All}
use Rattle.sv_base.specs.declared.config.Config.{Config}
use Rattle.sv_base.specs.Kinds.{Kind, is_kind, is_in_range}
use Rattle.bay_rooms.specs.Slots.{Held}
use Rattle.bay_model.specs.declared.step.Setting.{Setting}
use Rattle.bay_model.specs.Lookups.{attr_of}
use Rattle.bay_model.specs.Model as model
use Rattle.bay_model.specs.Model.{Model}
use Rattle.bay_model.specs.NamedLines.{domains}
use Rattle.setting_groups.specs.Grouped.{Settled, Domained, Grouped, place_in, setting_at, with_value}
use Rattle.setting_groups.specs.Opened.{opened}

pub record Frame : Type 0 where
  pub attr : ℕ
  pub domain : ℕ
  pub kind : Kind
  pub groups : ℕ

abbrev pub frame : Settled → Frame
frame t = record { attr = t.attr; domain = t.domain; kind = t.copy.kind; groups = length t.groups }

abbrev pub count_in : Domained → ℕ
count_in d = d.count

-- the groups have the frame of those of a configuration
pub record IsFramed (c : Config) (s : Grouped) : Type 0 where
  pub settings : map frame s.settings ≡ map frame (opened c (domains c)).settings
  pub domains : map count_in s.domains ≡ map count_in (opened c (domains c)).domains

-- each SG attribute of the model is among the settings
abbrev pub IsComplete : Model → Grouped → Type 0
IsComplete c s = (x : ℕ) → (attr_of c x).access ≡ model.active → is_some (place_in x s.settings) ≡ true

-- a setting of the process gives the SG attribute at place k a value of its kind and range
pub record IsPut (s : Grouped) (t : Setting) (k : ℕ) : Type 0 where
  pub domain : (setting_at s k).domain < length s.domains
  pub kind : is_kind (setting_at s k).copy.kind t.value ≡ true
  pub range : is_in_range (setting_at s k).copy.kind t.value ≡ true

abbrev pub ArePut : Grouped → List Setting → Type 0
ArePut s settings = All (λ (t : Setting). (k : ℕ) → place_in t.attr.0 s.settings ≡ Some k → IsPut s t k) settings

-- what is so of all that a setting holds, which is of one kind
pub record Holds (P : Held → Type 0) (t : Settled) : Type 0 where
  pub copy : P t.copy
  pub groups : All P t.groups
  pub kinds : All (λ (h : Held). h.kind ≡ t.copy.kind) t.groups

-- the groups are those of a configuration, and it is so of all that they hold
pub record IsFit (c : Config) (P : Held → Type 0) (s : Grouped) : Type 0 where
  pub framed : IsFramed c s
  pub holds : All (Holds P) s.settings

-- it would be so of what the process sets
abbrev pub AreHeldOnce : (Held → Type 0) → Grouped → List Setting → Type 0
AreHeldOnce P s settings = All (λ (t : Setting). (k : ℕ) → place_in t.attr.0 s.settings ≡ Some k → P (with_value t.value (setting_at s k).copy)) settings
