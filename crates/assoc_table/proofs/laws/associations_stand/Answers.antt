-- why `laws::associations_stand` answers as its contract says
use Rattle.assoc_table.proofs.StandLaws.{stands-empty, stands-arrival, stands-deed}
use Rattle.std.specs.Prelude.{◌∷◌}
use Rattle.assoc_table.proofs.laws.associations_stand.Goals as goal

pub returns-clause-empty : goal.returns-clause-empty
returns-clause-empty c = stands-empty

pub returns-clause-arrival : goal.returns-clause-arrival
returns-clause-arrival c = stands-arrival

pub returns-clause-deed : goal.returns-clause-deed
returns-clause-deed c = stands-deed

pub returns-clause-again : goal.returns-clause-again
returns-clause-again c = λ c' m n q before rows. stands-arrival c' m n (q ∷ before) rows
