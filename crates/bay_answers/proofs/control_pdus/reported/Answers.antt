-- why `control_pdus::reported` answers as its contract says
use Rattle.std.proofs.Common.{sym, subst, ◌∙◌}
use Rattle.mms_elements.specs.Reports.{IsSpecificationElement}
use Rattle.bay_answers.proofs.ControlPduLaws.{is_list}
use Rattle.bay_answers.proofs.control_pdus.reported.Goals as goal

pub write_report-requires : goal.write_report-requires
write_report-requires c = subst IsSpecificationElement (sym (c.as_slice.ensures.value ∙ c.in_ok-list.ensures)) (is_list c.args.variables.now c.requires)
