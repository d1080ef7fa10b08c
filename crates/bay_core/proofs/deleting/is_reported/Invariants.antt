-- what the loops of `deleting::is_reported` keep
use Rattle.std.proofs.Common.{◌≡◌, drop}
use Rattle.std.specs.List.{list_any}
use Rattle.std.specs.Str.{bytes_eq}
use Rattle.bay_model.specs.Lookups.{reference_of}
use Rattle.report_block.specs.declared.block.ReportBlock.{ReportBlock}
use Rattle.bay_core.proofs.deleting.is_reported.Given as goal

abbrev pub invariant-loop-part : goal.invariant-loop-part
invariant-loop-part l = list_any (λ (p : ReportBlock). bytes_eq p.block.options.dat_set (reference_of l.name.domain l.name.item)) (drop l.part-index l.parts)
    ≡ list_any (λ (p : ReportBlock). bytes_eq p.block.options.dat_set (reference_of l.name.domain l.name.item)) l.parts
