-- why `cut::cut_replies_are_answered_alike` answers as its contract says
use Rattle.codec_laws.proofs.CutLaws.{cut_alike}
use Rattle.codec_laws.proofs.LongReadLaws.{read_alike}
use Rattle.codec_laws.proofs.cut.cut_replies_are_answered_alike.Goals as goal

pub returns-clause-names : goal.returns-clause-names
returns-clause-names c = cut_alike

pub returns-clause-reads : goal.returns-clause-reads
returns-clause-reads c = read_alike
