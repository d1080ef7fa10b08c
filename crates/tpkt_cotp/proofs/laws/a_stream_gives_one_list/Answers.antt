-- why `laws::a_stream_gives_one_list` answers as its contract says
use Rattle.tpkt_cotp.proofs.ObjectLaws as objects
use Rattle.tpkt_cotp.proofs.StreamLaws as laws
use Rattle.tpkt_cotp.proofs.laws.a_stream_gives_one_list.Goals as goal

pub returns : goal.returns
returns c = record { once = objects.one_object; refused = laws.one_refusal; never = objects.never; still = laws.refused_still }
