-- why `laws::oldest_are_taken` answers as its contract says
use Rattle.bay_queues.proofs.StandLaws.{oldest-taken}
use Rattle.bay_queues.proofs.laws.oldest_are_taken.Goals as goal

pub returns : goal.returns
returns c = λ model n m a w before q s is number h. oldest-taken model n m a before q s is number w h
