-- why `laws::books_are_bounded` answers as its contract says
use Rattle.data_sets.proofs.RoomLaws.{bounded_opened, bounded_define, bounded_delete, bounded_hold, bounded_release}
use Rattle.data_sets.proofs.laws.books_are_bounded.Goals as goal

pub returns-clause-opened : goal.returns-clause-opened
returns-clause-opened c = bounded_opened

pub returns-clause-define : goal.returns-clause-define
returns-clause-define c = bounded_define

pub returns-clause-delete : goal.returns-clause-delete
returns-clause-delete c = bounded_delete

pub returns-clause-hold : goal.returns-clause-hold
returns-clause-hold c = bounded_hold

pub returns-clause-release : goal.returns-clause-release
returns-clause-release c = bounded_release
