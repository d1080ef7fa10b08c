-- why `laws::elements_are_read_back` answers as its contract says
use Rattle.ber_write.proofs.ElementLaws as laws
use Rattle.ber_write.proofs.laws.elements_are_read_back.Goals as goal

pub returns : goal.returns
returns c = record { spelled = laws.read_back; again = laws.again; tags = laws.spelled_tag }
