-- why `history_laws::opers_act` answers as its contract says
use Rattle.control_core.proofs.CallLaws.{opers_act, acts_are_opers}
use Rattle.control_core.proofs.history_laws.opers_act.Goals as goal

pub returns-clause-act : goal.returns-clause-act
returns-clause-act c = opers_act

pub returns-clause-alone : goal.returns-clause-alone
returns-clause-alone c = acts_are_opers
