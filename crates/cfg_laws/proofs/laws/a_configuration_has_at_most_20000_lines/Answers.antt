-- why `laws::a_configuration_has_at_most_20000_lines` answers as its contract says
use Rattle.cfg_laws.proofs.TextLaws.{one-line-more, octets-more}
use Rattle.cfg_laws.proofs.laws.a_configuration_has_at_most_20000_lines.Goals as goal

pub returns-clause-line : goal.returns-clause-line
returns-clause-line c = one-line-more

pub returns-clause-octets : goal.returns-clause-octets
returns-clause-octets c = octets-more
