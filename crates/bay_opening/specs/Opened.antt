-- How a bay begins: each report block as it is configured, with an empty buffer, memory for the members of any data set, and the number of
-- the one that its DatSet names (IEC 61850-7-2, BRCB attribute DatSet).
use Rattle.std.specs.Prelude.{ℕ, Option, None, map, replicate}
use Rattle.sv_base.specs.declared.config.BlockDef.{BlockDef}
use Rattle.bay_model.specs.Configured.{block_defined}
use Rattle.data_sets.specs.Books.{Book, number_referred}
use Rattle.brcb_state.specs.Changes.{configured}
use Rattle.brcb_state.specs.declared.block.Block.{Block}
use Rattle.entry_ring.specs.Ringed.{Ringed}
use Rattle.entry_ring.specs.Standing.{empty}
use Rattle.window_core.specs.Windows.{Windowed, empty as empty_window}
use Rattle.report_block.specs.declared.block.ReportBlock.{ReportBlock}
use Rattle.assoc_table.specs.Seats.{closed}
use Rattle.bay_model.specs.Configured.{control_defined}
use Rattle.control_core.specs.Tables.{opened_of}
use Rattle.bay_queues.specs.Queued.{Queued}
use Rattle.sv_base.specs.declared.config.Config.{Config}

-- a block: its attributes, its entries, what it gathers, the origin of its periods, and the number of its data set
pub record PartSeen : Type 0 where
  pub block : Block
  pub ring : Ringed
  pub window : Windowed
  pub origin : Option ℕ
  pub set : Option ℕ

abbrev pub seen : ReportBlock → PartSeen
seen p = record { block = p.block; ring = p.ring; window = p.window; origin = p.origin; set = p.set }

abbrev pub part_defined : Book → BlockDef → PartSeen
part_defined book def = record {
  block = configured (block_defined def);
  ring = empty def.capacity;
  window = empty_window 256 def.buf_tm;
  origin = None;
  set = number_referred def.dat_set book;
}

-- no association is open, and each control is as it is configured
abbrev pub queues_opened : Config → Queued
queues_opened c = record { rows = replicate 16 closed; table = opened_of (map control_defined c.controls) }
