-- why `laws::whole_records_are_read_to_their_end` answers as its contract says
use Rattle.record_outcome.proofs.CompleteLaws.{records-end}
use Rattle.record_outcome.proofs.whole.whole_records_are_read_to_their_end.Goals as goal

pub returns : goal.returns
returns c = records-end
