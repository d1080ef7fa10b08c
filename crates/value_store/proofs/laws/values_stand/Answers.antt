-- why `laws::values_stand` answers as its contract says
use Rattle.std.specs.Prelude.{◌∷◌}
use Rattle.value_store.proofs.StandLaws.{stands-arrival, stands-deed}
use Rattle.value_store.proofs.laws.values_stand.Goals as goal

pub returns-clause-arrival : goal.returns-clause-arrival
returns-clause-arrival c = λ all c' m n before. stands-arrival all c' m n before

pub returns-clause-deed : goal.returns-clause-deed
returns-clause-deed c = λ all new c' m n d before. stands-deed all new c' m n d before

pub returns-clause-again : goal.returns-clause-again
returns-clause-again c = λ all c' m n q before. stands-arrival all c' m n (q ∷ before)
