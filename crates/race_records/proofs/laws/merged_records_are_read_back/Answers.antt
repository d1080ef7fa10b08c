-- why `laws::merged_records_are_read_back` answers as its contract says
use Rattle.race_records.proofs.OctetLaws.{merged_are_read_back}
use Rattle.race_records.proofs.laws.merged_records_are_read_back.Goals as goal

pub returns : goal.returns
returns c = record { back = merged_are_read_back }
