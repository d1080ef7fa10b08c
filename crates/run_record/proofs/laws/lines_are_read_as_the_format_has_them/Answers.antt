-- why `laws::lines_are_read_as_the_format_has_them` answers as its contract says
use Rattle.run_record.proofs.ReadLaws.{line-read}
use Rattle.run_record.proofs.ToldLaws.{line-told}
use Rattle.run_record.proofs.laws.lines_are_read_as_the_format_has_them.Goals as goal

pub returns : goal.returns
returns c = λ text line. (line-told text line, line-read text line)
