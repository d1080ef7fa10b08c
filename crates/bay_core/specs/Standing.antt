-- What a bay stands for: a history of accepted steps, by one equation for each part.
use Rattle.std.specs.Prelude.{◌≡◌, ℕ, map, length}
use Rattle.sv_base.specs.declared.config.Config.{Config}
use Rattle.bay_model.specs.Named.{configured_model}
use Rattle.bay_model.specs.Points.{Past, now}
use Rattle.bay_model.specs.Sets.{sets}
use Rattle.bay_model.specs.Answers.{History, points}
use Rattle.bay_model.specs.Acceptance.{IsHistory}
use Rattle.value_store.specs.Wholes.{Stands as ValuesStand}
use Rattle.data_sets.specs.Standing.{data_set}
use Rattle.assoc_table.specs.Standing.{Stands as AssociationsStand}
use Rattle.setting_groups.specs.Standing.{Stands as GroupsStand}
use Rattle.control_core.specs.Standing.{Stands as ControlsStand}
use Rattle.report_block.specs.Standing.{BlocksStand}
use Rattle.bay_core.specs.State.{State}

-- the state stands for these points of n steps
pub record StandsAt (s : State) (c : Config) (count : ℕ) (past : Past) : Type 0 where
  pub is_config : s.config ≡ c
  pub is_steps : s.steps ≡ count
  pub is_latest : s.latest ≡ now past
  pub values : ValuesStand s.stored (configured_model c) past
  pub associations : AssociationsStand s.rows (configured_model c) past
  pub groups : GroupsStand s.groups (configured_model c) past
  pub controls : ControlsStand s.controls (configured_model c) past
  -- the configured data sets and those that clients defined
  pub sets : map data_set s.book.sets ≡ sets (configured_model c) past
  pub configured : s.book.configured ≡ length (configured_model c).sets
  pub blocks : BlocksStand (configured_model c) past s.parts

-- the state stands for this history of accepted steps, with this configuration
abbrev pub StandsFor : State → Config → History → Type 0
StandsFor s c h = IsHistory (configured_model c) h × StandsAt s c (length h) (points (configured_model c) h)
