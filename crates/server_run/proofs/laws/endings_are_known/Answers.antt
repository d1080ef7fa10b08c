-- why `laws::endings_are_known` answers as its contract says
use Rattle.server_run.proofs.EndingLaws as laws
use Rattle.server_run.proofs.laws.endings_are_known.Goals as goal

pub returns : goal.returns
returns c = record { known = laws.endings_are_known }
