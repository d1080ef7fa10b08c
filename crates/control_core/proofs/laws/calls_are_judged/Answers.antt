-- why `laws::calls_are_judged` answers as its contract says
use Rattle.control_core.proofs.StandLaws.{comes-to_one}
use Rattle.control_core.proofs.laws.calls_are_judged.Goals as goal

pub returns-clause-one : goal.returns-clause-one
returns-clause-one c = comes-to_one
