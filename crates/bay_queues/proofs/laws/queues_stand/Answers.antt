-- why `laws::queues_stand` answers as its contract says
use Rattle.bay_queues.proofs.StandLaws.{stands-opened, stands-arrival, stands-deed, stands-again}
use Rattle.bay_queues.proofs.laws.queues_stand.Goals as goal

pub returns-clause-opened : goal.returns-clause-opened
returns-clause-opened c = stands-opened

pub returns-clause-arrival : goal.returns-clause-arrival
returns-clause-arrival c = stands-arrival

pub returns-clause-deed : goal.returns-clause-deed
returns-clause-deed c = stands-deed

pub returns-clause-again : goal.returns-clause-again
returns-clause-again c = stands-again
