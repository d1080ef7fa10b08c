-- why `laws::a_tsdu_is_read_back` answers as its contract says
use Rattle.tpkt_cotp.proofs.ObjectLaws as laws
use Rattle.tpkt_cotp.proofs.WrittenOctetLaws as written
use Rattle.tpkt_cotp.proofs.laws.a_tsdu_is_read_back.Goals as goal

pub returns : goal.returns
returns c = record { segments = laws.segments; only = laws.only; read = laws.tsdu; taken = written.tsdu_taken }
