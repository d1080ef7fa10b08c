-- why `laws::tpkts_are_read_as_spelled` answers as its contract says
use Rattle.tpkt_cotp.proofs.PacketLaws as laws
use Rattle.tpkt_cotp.proofs.laws.tpkts_are_read_as_spelled.Goals as goal

pub returns : goal.returns
returns c = record { tells = laws.packet_matches; whole = laws.packet_again; partial = laws.partial_again; bad = laws.bad_again; free = laws.packet_free }
