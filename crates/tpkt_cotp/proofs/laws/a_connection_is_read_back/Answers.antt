-- why `laws::a_connection_is_read_back` answers as its contract says
use Rattle.tpkt_cotp.proofs.ObjectLaws as laws
use Rattle.tpkt_cotp.proofs.WrittenOctetLaws as written
use Rattle.tpkt_cotp.proofs.laws.a_connection_is_read_back.Goals as goal

pub returns : goal.returns
returns c = record { call = laws.call; confirm = laws.confirm; call_taken = written.call_taken; confirm_taken = written.confirm_taken }
