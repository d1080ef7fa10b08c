-- why `laws::opened_books_are_served` answers as its contract says
use Rattle.bay_replies.proofs.OpenedLaws.{sets-stand, items-named}
use Rattle.bay_replies.proofs.laws.opened_books_are_served.Goals as goal

pub returns-clause-sets : goal.returns-clause-sets
returns-clause-sets c = λ d past none. sets-stand d past none

pub returns-clause-named : goal.returns-clause-named
returns-clause-named c = λ d k below. items-named d k below
