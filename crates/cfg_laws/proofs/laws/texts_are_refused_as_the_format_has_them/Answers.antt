-- why `laws::texts_are_refused_as_the_format_has_them` answers as its contract says
use Rattle.cfg_laws.proofs.TextLaws.{config-refused}
use Rattle.cfg_laws.proofs.laws.texts_are_refused_as_the_format_has_them.Goals as goal

pub returns : goal.returns
returns c = config-refused
