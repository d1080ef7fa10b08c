-- why `laws::lines_are_refused_as_the_format_has_them` answers as its contract says
use Rattle.run_record.proofs.RefusedLaws.{long-told, long-refused, word-told, word-refused, number-told, number-refused}
use Rattle.run_record.proofs.laws.lines_are_refused_as_the_format_has_them.Goals as goal

pub returns-clause-long : goal.returns-clause-long
returns-clause-long c = λ text. (long-told text, long-refused text)

pub returns-clause-word : goal.returns-clause-word
returns-clause-word c = λ text. (word-told text, word-refused text)

pub returns-clause-number : goal.returns-clause-number
returns-clause-number c = λ text. (number-told text, number-refused text)
