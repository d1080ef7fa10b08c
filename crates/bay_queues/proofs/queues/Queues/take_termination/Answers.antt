-- why `queues::Queues::take_termination` answers as its contract says
use Rattle.std.proofs.Common.{◌≡◌, sym, subst, Some}
use Rattle.assoc_table.specs.declared.waiting.Waiting.TheVariants.{Termination}
use Rattle.assoc_table.specs.Tables.{taken}
use Rattle.bay_queues.specs.Queued.{Queued, IsQueued}
use Rattle.bay_queues.specs.Taken.{oldest}
use Rattle.bay_queues.proofs.DueLaws.{there-oldest, runs-oldest, queued-ended}
use Rattle.bay_queues.proofs.queues.Queues.take_termination.Goals as goal

pub termination-requires-clause-control : goal.termination-requires-clause-control
termination-requires-clause-control c =
    let first = subst (λ (q : Queued). oldest c.args.a.0 q ≡ Some (Termination c.args.c c.args.good)) (sym c.self.view_is) c.requires.oldest in
    there-oldest c.self.inside.associations c.self.inside.controls c.args.a.0 c.args.c c.args.good c.requires.number first c.self.invariant

pub termination-requires-clause-running : goal.termination-requires-clause-running
termination-requires-clause-running c =
    let first = subst (λ (q : Queued). oldest c.args.a.0 q ≡ Some (Termination c.args.c c.args.good)) (sym c.self.view_is) c.requires.oldest in
    runs-oldest c.self.inside.associations c.self.inside.controls c.args.a.0 c.args.c c.args.good c.requires.number first c.self.invariant

pub invariant_of-self : goal.invariant_of-self
invariant_of-self c =
    let rows = c.self.inside.associations in
    let t = c.self.inside.controls in
    let first = subst (λ (q : Queued). oldest c.args.a.0 q ≡ Some (Termination c.args.c c.args.good)) (sym c.self.view_is) c.requires.oldest in
    subst (λ r. IsQueued r c.taken.new.self) (sym c.pop.ensures.left) (subst (λ u. IsQueued (taken rows c.args.a.0) u) (sym c.taken.ensures)
    (queued-ended rows t c.args.a.0 c.args.c c.args.good c.requires.number (there-oldest rows t c.args.a.0 c.args.c c.args.good c.requires.number first c.self.invariant) first c.self.invariant))
