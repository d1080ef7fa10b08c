-- A bay whose block has reported an entry.
use Rattle.std.proofs.Common.{◌≡◌, ℕ, List, Option, Some, length, refl, slice_set}
use Rattle.std.specs.Prelude.{slice_get}
use Rattle.sv_base.specs.declared.config.Config.{Config}
use Rattle.sv_base.specs.Filled.{Filled}
use Rattle.object_model.specs.Nodes.{node_rows}
use Rattle.data_sets.specs.Books.{Book}
use Rattle.value_store.specs.Stored.{Stored}
use Rattle.setting_groups.specs.Grouped.{Grouped}
use Rattle.report_block.specs.declared.block.ReportBlock.{ReportBlock}
use Rattle.report_block.specs.declared.events.EventRoom.{EventRoom}
use Rattle.report_block.specs.Writes.{reported_by}
use Rattle.block_watch.specs.declared.watch.Watch.{Watch}
use Rattle.bay_core.specs.Whole.{IsWhole}
use Rattle.control_core.specs.Tables.{Table}
use Rattle.bay_core.proofs.FurnishLaws.{furnished-set}
use Rattle.block_events.proofs.QuietLaws.{quiet-same}
use Rattle.block_watch.proofs.WatchLaws.{watching-same}

-- it is whole as before
pub whole-sent : (c : Config) (stored : List Stored) (groups : Grouped) (book : Book) (parts : List ReportBlock) (w : Watch) (octets : Filled ℕ) (room latest : ℕ) (dues : List (Option ℕ)) (events : EventRoom) (controls : Table) (b id : ℕ) (part : ReportBlock)
    → slice_get parts b ≡ Some part → IsWhole c stored groups book parts w octets room latest dues events controls → IsWhole c stored groups book (slice_set parts b (reported_by id part)) w octets room latest dues events controls
whole-sent c stored groups book parts w octets room latest dues events controls b id part there whole = record {
  furnished = furnished-set c stored book parts w octets room whole.furnished b part (reported_by id part) w there (whole.furnished.sets b part there) (whole.furnished.dat_sets b part there) refl
      (watching-same (node_rows c) book (length stored) parts w b part (reported_by id part) there refl refl whole.furnished.watch);
  quiet = quiet-same latest dues parts b part (reported_by id part) there refl whole.quiet;
  grouped = whole.grouped;
  roomy = whole.roomy;
  controls = whole.controls;
}
