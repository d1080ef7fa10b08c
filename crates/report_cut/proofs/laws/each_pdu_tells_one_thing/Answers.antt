-- why `laws::each_pdu_tells_one_thing` answers as its contract says
use Rattle.report_cut.proofs.PartLaws.{one_part}
use Rattle.report_cut.proofs.laws.each_pdu_tells_one_thing.Goals as goal

pub returns : goal.returns
returns c = one_part
