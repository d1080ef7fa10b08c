-- why `laws::retained_entries_are_held` answers as its contract says
use Rattle.bay_model.specs.Singles.{arrival}
use Rattle.entry_ring.proofs.HoldLaws.{holds-opened, holds-point, holds-deed, holds-again}
use Rattle.entry_ring.proofs.laws.retained_entries_are_held.Goals as goal

pub returns-clause-opened : goal.returns-clause-opened
returns-clause-opened c = holds-opened

pub returns-clause-point : goal.returns-clause-point
returns-clause-point c = holds-point

pub returns-clause-arrival : goal.returns-clause-arrival
returns-clause-arrival c = λ c' b m n before r es. holds-point c' b (arrival n m) before r es

pub returns-clause-deed : goal.returns-clause-deed
returns-clause-deed c = holds-deed

pub returns-clause-again : goal.returns-clause-again
returns-clause-again c = holds-again
