-- why `names::texts_have_short_names` answers as its contract says
use Rattle.cfg_text.proofs.WholeLaws.{config-told}
use Rattle.text_configs.proofs.ServableLaws.{texts-are-served}
use Rattle.output_laws.proofs.NameLaws.{names-short}
use Rattle.output_laws.proofs.names.texts_have_short_names.Goals as goal

pub returns : goal.returns
returns e = λ text c is. let told = config-told text c is in names-short text c told (texts-are-served text c told)
