-- why `laws::members_are_no_longer` answers as its contract says
use Rattle.value_store.proofs.LargestLaws.{value_within, member_within}
use Rattle.value_store.proofs.laws.members_are_no_longer.Goals as goal

pub returns-clause-leaf : goal.returns-clause-leaf
returns-clause-leaf c = value_within

pub returns-clause-member : goal.returns-clause-member
returns-clause-member c = member_within
