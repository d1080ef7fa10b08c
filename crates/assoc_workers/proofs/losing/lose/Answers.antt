-- why `losing::lose` answers as its contract says
use Rattle.assoc_workers.proofs.MadeLaws.{gave_up}
use Rattle.assoc_workers.proofs.losing.lose.Goals as goal

pub returns : goal.returns
returns g c = gave_up _ _ _ _ _ _ c.make.ensures.made c.make.ensures.turned c.make.ensures.lean
