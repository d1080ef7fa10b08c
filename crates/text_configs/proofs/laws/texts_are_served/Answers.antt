-- why `laws::texts_are_served` answers as its contract says
use Rattle.cfg_text.proofs.WholeLaws.{config-told}
use Rattle.text_configs.proofs.ServableLaws.{texts-are-served}
use Rattle.text_configs.proofs.laws.texts_are_served.Goals as goal

pub returns : goal.returns
returns e = λ text c is. texts-are-served text c (config-told text c is)
