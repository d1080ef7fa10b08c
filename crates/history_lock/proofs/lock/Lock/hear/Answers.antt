-- why `lock::Lock::hear` answers as its contract says
use Rattle.std.proofs.Common.{rules, ap}
use Rattle.history_lock.specs.Plays.{Seated}
use Rattle.history_lock.proofs.Parts.{witness_kept, joins_kept, hears_kept}
use Rattle.history_lock.proofs.lock.Lock.hear.Goals as goal

pub split_seat-witness-requires : goal.split_seat-witness-requires
split_seat-witness-requires g c = (c.requires.table.1, search rules, witness_kept _ _ _ _ _ _)

pub join_seat-requires : goal.join_seat-requires
join_seat-requires g c = (
  c.requires.table.0,
  search rules,
  search rules,
  search rules,
  joins_kept _ _ _ _ _ _ _ _ c.requires.idle (ap (λ (m : Seated _). m.0.phase) c.split_seat-witness.ensures.4) c.requires.alone.0,
)

pub load-requires : goal.load-requires
load-requires g c = (search rules, search rules, hears_kept _ _ _ _ _ _ _)
