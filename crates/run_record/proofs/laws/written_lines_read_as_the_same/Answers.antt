-- why `laws::written_lines_read_as_the_same` answers as its contract says
use Rattle.run_record.specs.Spelled.{spelled}
use Rattle.run_record.proofs.ReadLaws.{line-read}
use Rattle.run_record.proofs.WrittenLaws.{again, shortest}
use Rattle.run_record.proofs.laws.written_lines_read_as_the_same.Goals as goal

pub returns-clause-again : goal.returns-clause-again
returns-clause-again c = λ text line s. line-read (spelled line) line (again text line s)

pub returns-clause-shortest : goal.returns-clause-shortest
returns-clause-shortest c = shortest
