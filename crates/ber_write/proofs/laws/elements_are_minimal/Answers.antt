-- why `laws::elements_are_minimal` answers as its contract says
use Rattle.ber_write.proofs.ElementLaws as laws
use Rattle.ber_write.proofs.laws.elements_are_minimal.Goals as goal

pub returns : goal.returns
returns c = laws.is_minimal
