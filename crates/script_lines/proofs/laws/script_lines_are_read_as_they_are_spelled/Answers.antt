-- why `laws::script_lines_are_read_as_they_are_spelled` answers as its contract says
use Rattle.script_lines.proofs.LineLaws.{line-read, line-told}
use Rattle.script_lines.proofs.laws.script_lines_are_read_as_they_are_spelled.Goals as goal

pub returns-clause-read : goal.returns-clause-read
returns-clause-read c = line-read

pub returns-clause-told : goal.returns-clause-told
returns-clause-told c = line-told
