-- why `queues::Queues::end` answers as its contract says
use Rattle.std.proofs.Common.{sym, subst}
use Rattle.assoc_table.specs.Tables.{ended}
use Rattle.bay_queues.specs.Queued.{IsQueued}
use Rattle.bay_queues.proofs.DueLaws.{queued-end}
use Rattle.bay_queues.proofs.queues.Queues.end.Goals as goal

pub invariant_of-self : goal.invariant_of-self
invariant_of-self c =
    let rows = c.self.inside.associations in
    let t = c.self.inside.controls in
    subst (λ r. IsQueued r c.lost.new.self) (sym c.end.ensures) (subst (λ u. IsQueued (ended rows c.args.a.0) u) (sym c.lost.ensures) (queued-end rows t c.args.a.0 c.requires c.self.invariant))
