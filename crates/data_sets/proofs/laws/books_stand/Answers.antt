-- why `laws::books_stand` answers as its contract says
use Rattle.data_sets.proofs.HistoryLaws.{book_defines, book_names, book_empties}
use Rattle.data_sets.proofs.QuietLaws.{book_quiet}
use Rattle.data_sets.proofs.laws.books_stand.Goals as goal

pub returns-clause-define : goal.returns-clause-define
returns-clause-define c = λ b c' a n m o name ts before h none plain. book_defines b c' a n m o name ts before h none plain

pub returns-clause-named : goal.returns-clause-named
returns-clause-named c = λ b c' a k j n m t before h below empty is. book_names b c' a k j n m t before h below empty is

pub returns-clause-emptied : goal.returns-clause-emptied
returns-clause-emptied c = λ b c' a k j n m before h below is. book_empties b c' a k j n m before h below is

pub returns-clause-quiet : goal.returns-clause-quiet
returns-clause-quiet c = λ b c' n m d before h is. book_quiet b c' n m d before h is
