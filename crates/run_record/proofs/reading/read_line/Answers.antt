-- why `reading::read_line` answers as its contract says
use Rattle.run_record.proofs.AnswerLaws.{answered}
use Rattle.run_record.proofs.reading.read_line.Goals as goal

pub returns-clause-format : goal.returns-clause-format
returns-clause-format c = answered c.args.line.now c.judge.result c.judge.ensures
