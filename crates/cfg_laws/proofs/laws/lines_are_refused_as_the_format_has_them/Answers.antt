-- why `laws::lines_are_refused_as_the_format_has_them` answers as its contract says
use Rattle.cfg_laws.proofs.LineLaws.{line-refused}
use Rattle.cfg_laws.proofs.TextLaws.{line-or, line-not-both}
use Rattle.cfg_laws.proofs.laws.lines_are_refused_as_the_format_has_them.Goals as goal

pub returns-clause-kinds : goal.returns-clause-kinds
returns-clause-kinds c = line-refused

pub returns-clause-either : goal.returns-clause-either
returns-clause-either c = line-or

pub returns-clause-not_both : goal.returns-clause-not_both
returns-clause-not_both c = line-not-both
