-- why `read_back::replies_are_read_back` answers as its contract says
use Rattle.mms_elements.proofs.ReportLaws.{report_spelled}
use Rattle.mms_pdu.proofs.ReplyOctetsLaws as laws
use Rattle.mms_pdu.proofs.read_back.replies_are_read_back.Goals as goal

pub returns : goal.returns
returns c = record {
  answer = laws.answer_spelled;
  error = laws.error_spelled;
  reject = λ invoke refusal small can. laws.reject_spelled invoke refusal small;
  report = λ names results is fits. let spelled = report_spelled names results is fits in (spelled, laws.report_is_reply _ names results spelled);
  concluded = laws.concluded_spelled;
}
