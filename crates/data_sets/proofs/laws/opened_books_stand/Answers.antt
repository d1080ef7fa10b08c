-- why `laws::opened_books_stand` answers as its contract says
use Rattle.data_sets.proofs.OpenLaws.{opens}
use Rattle.data_sets.proofs.laws.opened_books_stand.Goals as goal

pub returns : goal.returns
returns c = λ c' rows are named. opens c' rows are named
