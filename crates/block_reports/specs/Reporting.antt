-- The report of an entry by its block, the members of its data set and what is kept of the entry (IEC 61850-7-2, the Report
-- service and its report format).
use Rattle.std.specs.Prelude.{◌≡◌, List, length, map}
use Rattle.bay_model.specs.declared.report.Report.{Report}
use Rattle.bay_model.specs.declared.tables.MemberShape.{MemberShape}
use Rattle.bay_model.specs.Model.{Model}
use Rattle.bay_model.specs.Notes.{Kept}
use Rattle.bay_model.specs.Reports.{report_id, member_of}
use Rattle.set_view.specs.Shapes.{node_numbers}
use Rattle.report_block.specs.declared.block.ReportBlock.{ReportBlock}
use Rattle.block_reports.specs.declared.reports.Texts.{Texts}
use Rattle.report_block.specs.Offers.{Offered}

-- the texts that the block's reports have
abbrev pub AreTextsOf : ReportBlock → Texts → Type 0
AreTextsOf part t =
    (t.rpt_id.items ≡ report_id part.block.options.rpt_id part.block.reference)
    × (t.opt_flds.items ≡ part.block.options.opt_flds) × (t.dat_set.items ≡ part.block.options.dat_set)

-- the report of an offer by its block, whose data set has members of these shapes; these are the members of its entry
abbrev pub report_by : Model → List MemberShape → ReportBlock → Offered → List Kept → Report
report_by c shapes part o ks = record {
  block = record { 0 = o.block };
  rpt_id = report_id part.block.options.rpt_id part.block.reference;
  opt_flds = part.block.options.opt_flds;
  sq = o.next.sq;
  time = o.entry.moment;
  dat_set = part.block.options.dat_set;
  ovfl = o.next.ovfl;
  id = o.next.id;
  conf_rev = part.block.revision;
  total = length shapes;
  members = map (member_of c (node_numbers shapes)) ks;
}
