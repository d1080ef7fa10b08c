-- why `lock::Lock::pass_on` answers as its contract says
use Rattle.std.proofs.Common.{rules, arith}
use Rattle.history_lock.proofs.Moves.{passes_kept, rings_kept}
use Rattle.history_lock.proofs.lock.Lock.pass_on.Goals as goal

pub fetch_add-served-requires : goal.fetch_add-served-requires
fetch_add-served-requires g c = let b = c.requires.machine in
    (c.requires.table, search rules, rw c.args.self.now.sized.1 (passes_kept _ _ _ _ _ _ b.0 b.1 c.requires.busy b.2 b.3 b.4))

pub fetch_add-requires : goal.fetch_add-requires
fetch_add-requires g c = (search rules, search rules, rings_kept _ _ _ _ _ _ _ _ (omega (arith, c.bell_of-bell.ensures)))
