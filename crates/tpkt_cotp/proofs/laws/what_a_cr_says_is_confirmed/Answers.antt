-- why `laws::what_a_cr_says_is_confirmed` answers as its contract says
use Rattle.tpkt_cotp.proofs.KeptLaws as bounds
use Rattle.tpkt_cotp.proofs.ObjectLaws as laws
use Rattle.tpkt_cotp.proofs.laws.what_a_cr_says_is_confirmed.Goals as goal

pub returns : goal.returns
returns c = record { asked = bounds.connection_fits; said = laws.said }
