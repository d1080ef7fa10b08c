-- why `laws::windows_stand` answers as its contract says
use Rattle.window_core.proofs.StandLaws.{always, at_once}
use Rattle.window_core.proofs.laws.windows_stand.Goals as goal

pub returns-clause-always : goal.returns-clause-always
returns-clause-always c = λ c' b members past. always c' b members past

pub returns-clause-at_once : goal.returns-clause-at_once
returns-clause-at_once c = λ c' b past z. at_once c' b past z
