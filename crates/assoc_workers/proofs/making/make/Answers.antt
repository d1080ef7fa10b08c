-- why `making::make` answers as its contract says
use Rattle.assoc_workers.proofs.MadeLaws.{made_one}
use Rattle.assoc_workers.proofs.making.make.Goals as goal

pub returns-clause-made : goal.returns-clause-made
returns-clause-made g c = made_one _ _ _ _ _ _ _ c.turn.ensures.same c.turn.ensures.own c.turn.ensures.told c.turn.ensures.turn c.now-moment.ensures.moment
