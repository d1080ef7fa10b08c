-- why `laws::segments_are_read_back` answers as its contract says
use Rattle.report_cut.proofs.BackLaws.{pdus_tell}
use Rattle.report_cut.proofs.laws.segments_are_read_back.Goals as goal

pub returns : goal.returns
returns c = pdus_tell
