-- why `worked::worked_reports` answers as its contract says
use Rattle.bay_examples.proofs.WorkedReports.{one_value, update_flag, trigger_bits, integrity_period, interrogation, moment_below}
use Rattle.bay_examples.proofs.worked.worked_reports.Goals as goal

pub returns-clause-one_value : goal.returns-clause-one_value
returns-clause-one_value c = one_value

pub returns-clause-update_flag : goal.returns-clause-update_flag
returns-clause-update_flag c = update_flag

pub returns-clause-trigger_bits : goal.returns-clause-trigger_bits
returns-clause-trigger_bits c = trigger_bits

pub returns-clause-integrity_period : goal.returns-clause-integrity_period
returns-clause-integrity_period c = integrity_period

pub returns-clause-interrogation : goal.returns-clause-interrogation
returns-clause-interrogation c = interrogation

pub returns-clause-moment_below : goal.returns-clause-moment_below
returns-clause-moment_below c = moment_below
