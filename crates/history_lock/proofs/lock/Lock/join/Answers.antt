-- why `lock::Lock::join` answers as its contract says
use Rattle.std.proofs.Common.{rules, ap, ◌∙◌}
use Rattle.history_lock.specs.Plays.{Seated}
use Rattle.history_lock.proofs.Parts.{joins_kept, compares_kept}
use Rattle.history_lock.proofs.lock.Lock.join.Goals as goal

pub join_seat-requires : goal.join_seat-requires
join_seat-requires g c = (
  c.requires.table.0,
  c.requires.table.1,
  c.requires.other.1,
  search rules,
  joins_kept _ _ _ _ _ _ _ _ c.requires.idle.0 c.requires.other.0
      c.requires.idle.2,
)

pub load-requires : goal.load-requires
load-requires g c = (search rules, search rules, compares_kept _ _ _ _ _ _ _ (ap (λ (m : Seated _). m.0.phase) c.join_seat.ensures.2 ∙ c.requires.idle.0))
