-- why `written::written_lines_are_read_back` answers as its contract says
use Rattle.record_outcome.proofs.LineLaws.{written-again, written-next}
use Rattle.record_outcome.proofs.written.written_lines_are_read_back.Goals as goal

pub returns-clause-next : goal.returns-clause-next
returns-clause-next c = written-next

pub returns-clause-again : goal.returns-clause-again
returns-clause-again c = written-again
