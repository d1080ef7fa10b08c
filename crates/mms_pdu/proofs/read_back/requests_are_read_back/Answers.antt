-- why `read_back::requests_are_read_back` answers as its contract says
use Rattle.mms_pdu.proofs.AskingLaws as laws
use Rattle.mms_pdu.proofs.read_back.requests_are_read_back.Goals as goal

pub returns : goal.returns
returns c = record { read = laws.read_spelled; write = laws.write_spelled; conclude = laws.conclude_spelled }
