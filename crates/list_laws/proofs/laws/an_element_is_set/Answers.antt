-- why `laws::an_element_is_set` answers as its contract says
use Rattle.list_laws.proofs.Places.{at_set}
use Rattle.list_laws.proofs.laws.an_element_is_set.Goals as goal

pub returns : goal.returns
returns c = at_set
