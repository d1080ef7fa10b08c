-- why `read_back::each_input_is_one_reply` answers as its contract says
use Rattle.mms_pdu.proofs.ReplyAgainLaws as laws
use Rattle.mms_pdu.proofs.read_back.each_input_is_one_reply.Goals as goal

pub returns : goal.returns
returns c = record { answered = laws.read_or_refused; unique = laws.one_reply; one_cause = laws.one_fault; not_both = laws.not_both }
