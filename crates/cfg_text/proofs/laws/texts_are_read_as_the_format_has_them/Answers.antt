-- why `laws::texts_are_read_as_the_format_has_them` answers as its contract says
use Rattle.cfg_text.proofs.WholeLaws.{config-read, config-told}
use Rattle.cfg_text.proofs.laws.texts_are_read_as_the_format_has_them.Goals as goal

pub returns : goal.returns
returns c = λ text config. (config-told text config, config-read text config)
