-- What is so of a bay between steps: its parts, its setting groups and its controls fit its configuration, there is capacity for events, and
-- each block has nothing due before the moment that the bay knows of it.
use Rattle.std.specs.Prelude.{◌≡◌, ℕ, List, map, Option}
use Rattle.sv_base.specs.declared.config.Config.{Config}
use Rattle.sv_base.specs.Filled.{Filled}
use Rattle.bay_model.specs.Configured.{control_defined}
use Rattle.control_core.specs.Tables.{Table}
use Rattle.bay_queues.specs.Queued.{configs}
use Rattle.data_sets.specs.Books.{Book}
use Rattle.value_store.specs.Stored.{Stored}
use Rattle.setting_groups.specs.Grouped.{Grouped}
use Rattle.report_block.specs.declared.block.ReportBlock.{ReportBlock}
use Rattle.report_block.specs.declared.events.EventRoom.{EventRoom}
use Rattle.report_block.specs.Events.{HasRoom}
use Rattle.block_watch.specs.declared.watch.Watch.{Watch}
use Rattle.bay_core.specs.State.{IsFurnished}
use Rattle.bay_values.specs.Held.{AreGrouped}
use Rattle.block_events.specs.Timed.{AreQuietUntil}

pub record IsWhole (c : Config) (stored : List Stored) (groups : Grouped) (book : Book) (parts : List ReportBlock) (w : Watch) (octets : Filled ℕ) (room : ℕ) (latest : ℕ) (dues : List (Option ℕ)) (events : EventRoom) (table : Table) : Type 0 where
  pub furnished : IsFurnished c stored book parts w octets room
  pub grouped : AreGrouped c groups
  pub quiet : AreQuietUntil latest dues parts
  pub roomy : HasRoom 256 events
  pub controls : configs table ≡ map control_defined c.controls
