-- why `laws::texts_have_groups` answers as its contract says
use Rattle.cfg_text.proofs.WholeLaws.{config-told}
use Rattle.setting_groups.proofs.OpenLaws.{opened_stands}
use Rattle.text_configs.proofs.GroupLaws.{texts-are-grouped}
use Rattle.text_configs.proofs.groups.texts_have_groups.Goals as goal

pub returns-clause-grouped : goal.returns-clause-grouped
returns-clause-grouped e = λ text c is. texts-are-grouped text c (config-told text c is)

pub returns-clause-opened : goal.returns-clause-opened
returns-clause-opened e = λ text c is. opened_stands c (texts-are-grouped text c (config-told text c is))
