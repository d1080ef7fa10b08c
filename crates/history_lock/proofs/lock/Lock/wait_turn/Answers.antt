-- why `lock::Lock::wait_turn` answers as its contract says
use Rattle.std.proofs.Common.{rules, ap, ◌∙◌, sym, subst, ℕ}
use Rattle.history_lock.specs.Views.{ticket_of}
use Rattle.history_lock.specs.Plays.{Seated, Got}
use Rattle.history_lock.proofs.Moves.{looks_kept}
use Rattle.history_lock.proofs.lock.Lock.wait_turn.Goals as goal

pub load-serving-requires : goal.load-serving-requires
load-serving-requires g c = let i = c.loop.invariant in
    (i.0 ∙ c.requires.table, search rules, looks_kept _ _ _ _ _ _ _ c.args.ticket (ap (λ m. m.0.phase) i.1 ∙ c.requires.drawn))

pub returns-then-serving-ticket-clause-got : goal.returns-then-serving-ticket-clause-got
returns-then-serving-ticket-clause-got g c =
    let same = c.loop.invariant.1 in
    let here = c.if-serving-ticket.true in
    let now = here ∙ sym (ap (λ (m : Seated _). ticket_of m.0.phase) same ∙ ap ticket_of c.requires.drawn) in
    subst (λ (z : Seated _ × ℕ). Got g.M.StateMachine.stands z.0 z.1 c.load-serving.new.seat.me) (λ i. (same i, here i)) (c.load-serving.ensures.2.0 now)
