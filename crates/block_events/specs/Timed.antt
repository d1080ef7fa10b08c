-- What time brings to the blocks of a bay, and until when it brings nothing (IEC 61850-7-2, BRCB attributes BufTm and IntgPd).
use Rattle.std.specs.Prelude.{◌≡◌, ℕ, List, map, Option, Some, length, slice_get}
use Rattle.bay_model.specs.declared.tables.NodeRow.{NodeRow}
use Rattle.data_sets.specs.Books.{Book}
use Rattle.value_store.specs.Stored.{Stored}
use Rattle.report_block.specs.declared.block.ReportBlock.{ReportBlock}
use Rattle.report_block.specs.Alls.{all_pieces, for_integrity}
use Rattle.report_block.specs.Coming.{arrived}
use Rattle.report_block.specs.Due.{due_at, IsBefore}
use Rattle.block_watch.specs.Watched.{members_in}

-- a block after time has passed between two moments, of which the later is that of a step
abbrev pub arrived_part : List NodeRow → Book → List Stored → (was now step : ℕ) → ReportBlock → ReportBlock
arrived_part rows book stored was now step part = arrived was now step (all_pieces stored (members_in rows book part) for_integrity) part

abbrev pub arrived_all : List NodeRow → Book → List Stored → (was now step : ℕ) → List ReportBlock → List ReportBlock
arrived_all rows book stored was now step parts = map (arrived_part rows book stored was now step) parts

-- seen from the moment at, the part has nothing due before due
abbrev pub IsQuietUntil : ℕ → Option ℕ → ReportBlock → Type 0
IsQuietUntil at due part = (now : ℕ) → IsBefore now due → IsBefore now (due_at at part)

-- each part has a moment before which it has nothing due
pub record AreQuietUntil (at : ℕ) (dues : List (Option ℕ)) (parts : List ReportBlock) : Type 0 where
  pub count : length dues ≡ length parts
  pub each : (b : ℕ) (due : Option ℕ) (part : ReportBlock) → slice_get dues b ≡ Some due → slice_get parts b ≡ Some part → IsQuietUntil at due part
