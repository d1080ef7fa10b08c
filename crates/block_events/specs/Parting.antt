-- What a loss makes of all blocks (IEC 61850-7-2, BRCB attributes RptEna and ResvTms).
use Rattle.std.specs.Prelude.{ℕ, List, map}
use Rattle.sv_base.specs.declared.numbers.AssocNo.{AssocNo}
use Rattle.report_block.specs.declared.block.ReportBlock.{ReportBlock}
use Rattle.report_block.specs.Writes.{lost_by}

abbrev pub after_loss_all : AssocNo → ℕ → List ReportBlock → List ReportBlock
after_loss_all a now parts = map (lost_by a now) parts
