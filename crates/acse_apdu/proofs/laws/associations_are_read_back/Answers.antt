-- why `laws::associations_are_read_back` answers as its contract says
use Rattle.acse_apdu.proofs.ReadBackLaws.{aarq_written, aare_written, aarq_read_back, aare_read_back}
use Rattle.acse_apdu.proofs.laws.associations_are_read_back.Goals as goal

pub returns : goal.returns
returns c = record { aarq = aarq_read_back; aare = aare_read_back; aarq_spelled = aarq_written; aare_spelled = aare_written }
