-- what the loops of `lock::Lock::take_turn` keep
use Rattle.bay_histories.specs.Histories.{turn_of}
use Rattle.history_lock.proofs.lock.Lock.take_turn.Given as goal

abbrev pub ghosts-append : goal.ghosts-append
ghosts-append g a = record { turn = turn_of a._moment a._actor.0 a._step.now }
