-- why `laws::tpdus_are_read_as_spelled` answers as its contract says
use Rattle.tpkt_cotp.proofs.TpduLaws as laws
use Rattle.tpkt_cotp.proofs.laws.tpdus_are_read_as_spelled.Goals as goal

pub returns : goal.returns
returns c = record { tells = laws.tpdu_matches; taken = laws.taken_again; refused = laws.refused_again }
