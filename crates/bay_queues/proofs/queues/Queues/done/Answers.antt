-- why `queues::Queues::done` answers as its contract says
use Rattle.std.proofs.Common.{◌≡◌, ◌<◌, [], ◌∷◌, length, ap, sym, subst, ◌∙◌}
use Rattle.std.specs.Prelude.{OnOk}
use Rattle.assoc_table.specs.declared.waiting.Waiting.TheVariants.{Termination}
use Rattle.assoc_table.specs.Tables.{extended}
use Rattle.control_core.specs.Controls.{due}
use Rattle.control_core.specs.Tables.{control_at}
use Rattle.bay_queues.specs.Queued.{Queued, IsQueued}
use Rattle.bay_queues.proofs.DueLaws.{is-new, number-told, queued-put, queued-still}
use Rattle.bay_queues.proofs.queues.Queues.done.Goals as goal

pub queue-requires-clause-new : goal.queue-requires-clause-new
queue-requires-clause-new c =
    let below : c.args.c.0 < length c.self.inside.controls.controls = subst (λ (q : Queued). c.args.c.0 < length q.table.controls) (sym c.self.view_is) c.requires in
    is-new c.self.inside.associations c.self.inside.controls c.args.c c.args.good c.in-Some.a.0 below (sym c.in-Some.ensures.due) c.in-Some.ensures.number c.self.invariant

pub invariant_of-self : goal.invariant_of-self
invariant_of-self c =
    let rows = c.self.inside.associations in
    let t = c.self.inside.controls in
    let below : c.args.c.0 < length t.controls = subst (λ (q : Queued). c.args.c.0 < length q.table.controls) (sym c.self.view_is) c.requires in
    let put : c.queue.new.self ≡ extended rows c.in-Some.a.0 (Termination c.args.c c.args.good ∷ []) = subst (λ r. OnOk r (c.queue.new.self ≡ extended rows c.in-Some.a.0 (Termination c.args.c c.args.good ∷ []))) c.queue.ensures.answer c.queue.ensures.queued in
    subst (λ r. IsQueued r c.done.new.self) (sym put)
    (subst (λ u. IsQueued (extended rows c.in-Some.a.0 (Termination c.args.c c.args.good ∷ [])) u) (sym c.done.ensures.left)
    (queued-put rows t c.args.c c.args.good c.in-Some.a.0 below (sym c.in-Some.ensures.due) c.in-Some.ensures.number c.self.invariant))

pub invariant_of-self-in_default : goal.invariant_of-self-in_default
invariant_of-self-in_default c =
    let below : c.args.c.0 < length c.self.inside.controls.controls = subst (λ (q : Queued). c.args.c.0 < length q.table.controls) (sym c.self.view_is) c.requires in
    subst (λ u. IsQueued c.self.inside.associations u) (sym c.done.ensures.left) (queued-still c.self.inside.associations c.self.inside.controls c.args.c c.args.good below c.self.invariant)

pub returns-in-Some-clause-number : goal.returns-in-Some-clause-number
returns-in-Some-clause-number c = λ x some.
    number-told c.done.result (due (control_at c.args.self.now.table.controls c.args.c.0).execution)
    (c.done.ensures.due ∙ ap (λ (q : Queued). due (control_at q.table.controls c.args.c.0).execution) c.self.view_is) c.done.ensures.number x some

pub returns-in_default-clause-number : goal.returns-in_default-clause-number
returns-in_default-clause-number c = λ x some.
    number-told c.done.result (due (control_at c.args.self.now.table.controls c.args.c.0).execution)
    (c.done.ensures.due ∙ ap (λ (q : Queued). due (control_at q.table.controls c.args.c.0).execution) c.self.view_is) c.done.ensures.number x some
