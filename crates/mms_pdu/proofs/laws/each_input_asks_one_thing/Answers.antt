-- why `laws::each_input_asks_one_thing` answers as its contract says
use Rattle.mms_pdu.proofs.RequestLaws.{read_or_refused, one_request, one_fault, not_both}
use Rattle.mms_pdu.proofs.laws.each_input_asks_one_thing.Goals as goal

pub returns : goal.returns
returns c = record { answered = read_or_refused; unique = one_request; one_cause = one_fault; not_both = not_both }
