-- What contracts see of a bay: its configuration, how many steps it made, the newest moment, the values of attributes, the data
-- sets that are there, its report blocks with their buffers and the numbers of their data sets, its associations, and its setting
-- groups.
use Rattle.std.specs.Prelude.{◌≡◌, ◌≢◌, ◌<◌, ◌≤◌, ℕ, List, [], length, Some, slice_get}
use Rattle.sv_base.specs.declared.config.Config.{Config}
use Rattle.sv_base.specs.Filled.{Filled}
use Rattle.object_model.specs.Nodes.{node_rows}
use Rattle.data_sets.specs.Books.{Book, number_referred, set_at}
use Rattle.data_sets.specs.Standing.{IsNamed}
use Rattle.value_store.specs.Stored.{Stored}
use Rattle.setting_groups.specs.Grouped.{Grouped}
use Rattle.bay_values.specs.Held.{AreHeld}
use Rattle.assoc_table.specs.Seats.{Row}
use Rattle.control_core.specs.Tables.{Table}
use Rattle.report_block.specs.declared.block.ReportBlock.{ReportBlock}
use Rattle.block_watch.specs.declared.watch.Watch.{Watch}
use Rattle.block_watch.specs.Watched.{IsWatching}
use Rattle.bay_config.specs.Servable.{IsServable}
use Rattle.block_watch.specs.Served.{AreServedSets}

pub record State : Type 0 where
  pub config : Config
  pub steps : ℕ
  pub latest : ℕ
  pub stored : List Stored
  pub book : Book
  pub parts : List ReportBlock
  pub rows : List Row
  pub groups : Grouped
  pub controls : Table

-- Each data set can be served and has a name, and one that a client defined has the name of no other. Which blocks name a set is asked
-- of the blocks: the book counts none.
pub record IsBooked (c : Config) (book : Book) : Type 0 where
  pub served : AreServedSets c book
  pub named : (k : ℕ) → k < length book.sets → (set_at book k).name.item ≢ []
  pub apart : (j k : ℕ) → j < length book.sets → book.configured ≤ k → k < length book.sets → (set_at book j).name ≡ (set_at book k).name → j ≡ k
  pub free : (k : ℕ) → k < length book.sets → (set_at book k).holds ≡ 0

-- the parts fit the configuration, each has an empty DatSet or one that names a data set, and the number of that; the index has the
-- members of their data sets, and the memory that entries of 256 members and changes need was made
pub record IsFurnished (c : Config) (stored : List Stored) (book : Book) (parts : List ReportBlock) (w : Watch) (octets : Filled ℕ) (room : ℕ) : Type 0 where
  pub servable : IsServable c
  pub values : AreHeld c stored
  pub count : length parts ≡ length c.blocks
  pub booked : IsBooked c book
  pub sets : (b : ℕ) (part : ReportBlock) → slice_get parts b ≡ Some part → part.set ≡ number_referred part.block.options.dat_set book
  pub dat_sets : (b : ℕ) (part : ReportBlock) → slice_get parts b ≡ Some part → IsNamed book part.block.options.dat_set
  pub windows : (b : ℕ) (part : ReportBlock) → slice_get parts b ≡ Some part → part.window.members ≡ 256
  pub watch : IsWatching (node_rows c) book (length stored) parts w
  pub entry : octets.room ≡ 129024
  pub changes : length stored ≤ room
