-- why `laws::sets_are_the_definition` answers as its contract says
use Rattle.data_sets.proofs.BookLaws.{defines, deletes, holds_more, holds_less}
use Rattle.data_sets.proofs.laws.sets_are_the_definition.Goals as goal

pub returns-clause-define : goal.returns-clause-define
returns-clause-define c = λ b n all used name ts h none plain. defines b n all used h name ts none plain

pub returns-clause-delete : goal.returns-clause-delete
returns-clause-delete c = λ b n k all used name h goes. deletes b n k all used name h goes

pub returns-clause-release : goal.returns-clause-release
returns-clause-release c = λ b n j k all used h within is. holds_less b n all used h j k within is

pub returns-clause-hold : goal.returns-clause-hold
returns-clause-hold c = λ b n j k all used r h within was is. holds_more b n all used h j k r within was is
