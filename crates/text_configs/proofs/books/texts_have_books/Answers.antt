-- why `laws::texts_have_books` answers as its contract says
use Rattle.cfg_text.proofs.WholeLaws.{config-told}
use Rattle.bay_model.specs.Named.{configured_model}
use Rattle.data_sets.proofs.OpenLaws.{opens}
use Rattle.text_configs.proofs.SetNameLaws.{sets-named, few-blocks}
use Rattle.text_configs.proofs.books.texts_have_books.Goals as goal

pub returns-clause-named : goal.returns-clause-named
returns-clause-named e = λ text c is. sets-named text c (config-told text c is)

pub returns-clause-few : goal.returns-clause-few
returns-clause-few e = λ text c is. few-blocks text c (config-told text c is)

pub returns-clause-opened : goal.returns-clause-opened
returns-clause-opened e = λ text c rows is are. opens (configured_model c) rows are (sets-named text c (config-told text c is))
