-- why `laws::lines_are_read_as_the_format_has_them` answers as its contract says
use Rattle.cfg_text.proofs.SpelledLineLaws.{line-read}
use Rattle.cfg_text.proofs.ReadLineLaws.{line-told}
use Rattle.cfg_text.proofs.WholeLaws.{has-name}
use Rattle.cfg_text.proofs.laws.lines_are_read_as_the_format_has_them.Goals as goal

pub returns-clause-read : goal.returns-clause-read
returns-clause-read c = line-read

pub returns-clause-told : goal.returns-clause-told
returns-clause-told c = λ front before text line are e. line-told before text line (has-name front before are) e
