-- why `laws::written_configurations_read_as_the_same` answers as its contract says
use Rattle.cfg_text.proofs.RewriteLaws.{rewritten, shortest}
use Rattle.cfg_text.proofs.laws.written_configurations_read_as_the_same.Goals as goal

pub returns-clause-again : goal.returns-clause-again
returns-clause-again c = rewritten

pub returns-clause-shortest : goal.returns-clause-shortest
returns-clause-shortest c = shortest
