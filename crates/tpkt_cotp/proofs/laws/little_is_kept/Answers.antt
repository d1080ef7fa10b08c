-- why `laws::little_is_kept` answers as its contract says
use Rattle.tpkt_cotp.proofs.ObjectLaws as laws
use Rattle.tpkt_cotp.proofs.KeptLaws as kept
use Rattle.tpkt_cotp.proofs.laws.little_is_kept.Goals as goal

pub returns : goal.returns
returns c = record { kept = laws.keeps; fit = laws.fit; step = kept.step_fits }
