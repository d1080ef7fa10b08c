-- why `laws::a_text_is_a_configuration_or_refused_once` answers as its contract says
use Rattle.cfg_laws.proofs.TextLaws.{once, not-both, either}
use Rattle.cfg_laws.proofs.laws.a_text_is_a_configuration_or_refused_once.Goals as goal

pub returns-clause-either : goal.returns-clause-either
returns-clause-either c = either

pub returns-clause-not_both : goal.returns-clause-not_both
returns-clause-not_both c = not-both

pub returns-clause-once : goal.returns-clause-once
returns-clause-once c = once
