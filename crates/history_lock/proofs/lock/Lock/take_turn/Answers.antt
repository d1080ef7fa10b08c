-- why `lock::Lock::take_turn` answers as its contract says
use Rattle.std.proofs.Common.{rules, ap, sym, ◌∙◌, ◌∷◌, [], ◌++◌, ◌<◌, ◌^◌, length, Some, None, ℕ, List, Option, subst}
use Rattle.atomic_table.specs.Table.{rest}
use Rattle.bay_model.specs.Answers.{Turn, History}
use Rattle.bay_histories.specs.Histories.{turn_of, IsLegal}
use Rattle.history_lock.specs.Views.{busy}
use Rattle.history_lock.specs.Plays.{Seated, resting}
use Rattle.history_lock.specs.Seats.{config_or}
use Rattle.history_lock.proofs.Turning.{stands_now, few_now, others_now, back_in, added_now}
use Rattle.history_lock.proofs.lock.Lock.take_turn.Goals as goal

pub exchange-requires : goal.exchange-requires
exchange-requires g c = let b = c.wait_turn.ensures.got in (
  search rules,
  (
    Some b.0,
    ap (λ (n : Seated _). n.1) b.2
        ∙ ap (λ (l : List (ℕ × Option _)). (0, Some b.0) ∷ rest l) (sym (ap (λ (n : Seated _). n.1) b.2)),
  ),
)

pub step-result-requires : goal.step-result-requires
step-result-requires g c = (
  config_or c.args.seat.now.me.0.config,
  c.wait_turn.ensures.got.1 ++ c.args.seat.now.me.0.seen,
  stands_now g.M.StateMachine.stands c.args.seat.now.me c.draw-ticket.new.seat.me c.wait_turn.new.seat.me c.draw-ticket.result (config_or c.args.seat.now.me.0.config) c.unwrap-machine.result
      c.exchange.result c.draw-ticket.ensures.seat c.requires.config c.wait_turn.ensures.got c.exchange.ensures.2 c.unwrap-machine.ensures,
  c.requires.fits,
  few_now g.M.StateMachine.stands c.args.seat.now.me c.draw-ticket.new.seat.me c.wait_turn.new.seat.me c.draw-ticket.result c.draw-ticket.ensures.seat
      c.wait_turn.ensures.got,
)

pub exchange-requires-2 : goal.exchange-requires-2
exchange-requires-2 g c = let e = ap (λ (n : Seated _). n.1) c.exchange.ensures.3 in
    (search rules, (None, e ∙ ap (λ (l : List (ℕ × Option _)). (0, None) ∷ rest l) (sym e)))

pub pass_on-requires-clause-busy : goal.pass_on-requires-clause-busy
pass_on-requires-clause-busy g c κs within =
    let t : Turn = turn_of c.args.moment c.args.actor.0 c.args.step.now in
    let got = c.wait_turn.ensures.got in
    let held = back_in g.M.StateMachine.stands c.args.seat.now.me c.draw-ticket.new.seat.me c.wait_turn.new.seat.me c.exchange.new.seat.me c.exchange-2.new.seat.me
    c.draw-ticket.result c.step-result.new.self c.draw-ticket.ensures.seat c.requires.idle.1 got c.exchange.ensures.3 c.exchange-2.ensures.3 in
    ap (λ (n : Seated _). busy n.0) (added_now c.args.seat.now.me c.exchange-2.new.seat.me c.append-place.new.seat.me c.draw-ticket.result got.1 c.step-result.new.self t held c.append-place.ensures.seat)

pub pass_on-requires-clause-machine : goal.pass_on-requires-clause-machine
pass_on-requires-clause-machine g c κs within =
    let t : Turn = turn_of c.args.moment c.args.actor.0 c.args.step.now in
    let got = c.wait_turn.ensures.got in
    let s = stands_now g.M.StateMachine.stands c.args.seat.now.me c.draw-ticket.new.seat.me c.wait_turn.new.seat.me c.draw-ticket.result (config_or c.args.seat.now.me.0.config) c.unwrap-machine.result
    c.exchange.result c.draw-ticket.ensures.seat c.requires.config got c.exchange.ensures.2 c.unwrap-machine.ensures in
    let held = back_in g.M.StateMachine.stands c.args.seat.now.me c.draw-ticket.new.seat.me c.wait_turn.new.seat.me c.exchange.new.seat.me c.exchange-2.new.seat.me
    c.draw-ticket.result c.step-result.new.self c.draw-ticket.ensures.seat c.requires.idle.1 got c.exchange.ensures.3 c.exchange-2.ensures.3 in
    let now = added_now c.args.seat.now.me c.exchange-2.new.seat.me c.append-place.new.seat.me c.draw-ticket.result got.1 c.step-result.new.self t held
    c.append-place.ensures.seat in
    let after = c.in-Ok.ensures.does (config_or c.args.seat.now.me.0.config) (got.1 ++ c.args.seat.now.me.0.seen) s in (
      c.step-result.new.self,
      config_or c.args.seat.now.me.0.config,
      ap (λ (n : Seated _). n.1) now,
      ap (λ (n : Seated _). n.0.config) now
          ∙ c.requires.config,
      subst (λ (h : History). g.M.StateMachine.stands c.step-result.new.self (config_or c.args.seat.now.me.0.config) h) (sym (ap (λ (n : Seated _). n.0.seen) now)) after.1,
    )

pub append-place-requires-clause-legal : goal.append-place-requires-clause-legal
append-place-requires-clause-legal g c κs within =
    let t : Turn = turn_of c.args.moment c.args.actor.0 c.args.step.now in
    let got = c.wait_turn.ensures.got in
    let s = stands_now g.M.StateMachine.stands c.args.seat.now.me c.draw-ticket.new.seat.me c.wait_turn.new.seat.me c.draw-ticket.result (config_or c.args.seat.now.me.0.config) c.unwrap-machine.result
    c.exchange.result c.draw-ticket.ensures.seat c.requires.config got c.exchange.ensures.2 c.unwrap-machine.ensures in
    let held = back_in g.M.StateMachine.stands c.args.seat.now.me c.draw-ticket.new.seat.me c.wait_turn.new.seat.me c.exchange.new.seat.me c.exchange-2.new.seat.me
    c.draw-ticket.result c.step-result.new.self c.draw-ticket.ensures.seat c.requires.idle.1 got c.exchange.ensures.3 c.exchange-2.ensures.3 in
    let after = c.in-Ok.ensures.does (config_or c.args.seat.now.me.0.config) (got.1 ++ c.args.seat.now.me.0.seen) s in (
      config_or c.args.seat.now.me.0.config,
      ap (λ (n : Seated _). n.0.config) held
          ∙ c.requires.config,
      subst (λ (h : History). IsLegal g.M.StateMachine.rules (config_or c.args.seat.now.me.0.config) (t ∷ h)) (sym (ap (λ (n : Seated _). n.0.seen) held)) (c.step-result.ensures.legal _ _ after.1),
    )

pub returns-in-Ok-clause-turn : goal.returns-in-Ok-clause-turn
returns-in-Ok-clause-turn g c =
    let t : Turn = turn_of c.args.moment c.args.actor.0 c.args.step.now in
    let got = c.wait_turn.ensures.got in
    let s = stands_now g.M.StateMachine.stands c.args.seat.now.me c.draw-ticket.new.seat.me c.wait_turn.new.seat.me c.draw-ticket.result (config_or c.args.seat.now.me.0.config) c.unwrap-machine.result
    c.exchange.result c.draw-ticket.ensures.seat c.requires.config got c.exchange.ensures.2 c.unwrap-machine.ensures in
    let held = back_in g.M.StateMachine.stands c.args.seat.now.me c.draw-ticket.new.seat.me c.wait_turn.new.seat.me c.exchange.new.seat.me c.exchange-2.new.seat.me
    c.draw-ticket.result c.step-result.new.self c.draw-ticket.ensures.seat c.requires.idle.1 got c.exchange.ensures.3 c.exchange-2.ensures.3 in
    let now = added_now c.args.seat.now.me c.exchange-2.new.seat.me c.append-place.new.seat.me c.draw-ticket.result got.1 c.step-result.new.self t held
    c.append-place.ensures.seat in
    let after = c.in-Ok.ensures.does (config_or c.args.seat.now.me.0.config) (got.1 ++ c.args.seat.now.me.0.seen) s in
    let place = c.append-place.ensures.place ∙ ap (λ (n : Seated _). length n.0.seen) held in (
      got.1,
      c.pass_on.ensures.seat ∙ (λ i. (resting (now i).0, [])),
      others_now g.M.StateMachine.stands c.args.seat.now.me c.draw-ticket.new.seat.me c.wait_turn.new.seat.me c.draw-ticket.result c.draw-ticket.ensures.seat got,
      after.0,
      place,
      subst (λ (n : ℕ). n < 2 ^ 62) (sym place)
          (few_now g.M.StateMachine.stands c.args.seat.now.me c.draw-ticket.new.seat.me c.wait_turn.new.seat.me c.draw-ticket.result c.draw-ticket.ensures.seat got),
      c.step-result.ensures.legal _ _ after.1,
    )

pub pass_on-requires-in-Err-clause-machine : goal.pass_on-requires-in-Err-clause-machine
pass_on-requires-in-Err-clause-machine g c κs within =
    let got = c.wait_turn.ensures.got in
    let s = stands_now g.M.StateMachine.stands c.args.seat.now.me c.draw-ticket.new.seat.me c.wait_turn.new.seat.me c.draw-ticket.result (config_or c.args.seat.now.me.0.config) c.unwrap-machine.result
    c.exchange.result c.draw-ticket.ensures.seat c.requires.config got c.exchange.ensures.2 c.unwrap-machine.ensures in
    let held = back_in g.M.StateMachine.stands c.args.seat.now.me c.draw-ticket.new.seat.me c.wait_turn.new.seat.me c.exchange.new.seat.me c.exchange-2.new.seat.me
    c.draw-ticket.result c.step-result.new.self c.draw-ticket.ensures.seat c.requires.idle.1 got c.exchange.ensures.3 c.exchange-2.ensures.3 in
    let now = c.count-count.ensures.seat ∙ held in (
      c.step-result.new.self,
      config_or c.args.seat.now.me.0.config,
      ap (λ (n : Seated _). n.1) now,
      ap (λ (n : Seated _). n.0.config) now
          ∙ c.requires.config,
      subst (λ (z : _ × History). g.M.StateMachine.stands z.0 (config_or c.args.seat.now.me.0.config) z.1)
          (λ i. (sym c.in-Err.ensures.does.0 i, sym (ap (λ (n : Seated _). n.0.seen) now) i)) s,
    )

pub returns-in-Err-clause-turn : goal.returns-in-Err-clause-turn
returns-in-Err-clause-turn g c =
    let got = c.wait_turn.ensures.got in
    let s = stands_now g.M.StateMachine.stands c.args.seat.now.me c.draw-ticket.new.seat.me c.wait_turn.new.seat.me c.draw-ticket.result (config_or c.args.seat.now.me.0.config) c.unwrap-machine.result
    c.exchange.result c.draw-ticket.ensures.seat c.requires.config got c.exchange.ensures.2 c.unwrap-machine.ensures in
    let held = back_in g.M.StateMachine.stands c.args.seat.now.me c.draw-ticket.new.seat.me c.wait_turn.new.seat.me c.exchange.new.seat.me c.exchange-2.new.seat.me
    c.draw-ticket.result c.step-result.new.self c.draw-ticket.ensures.seat c.requires.idle.1 got c.exchange.ensures.3 c.exchange-2.ensures.3 in
    let now = c.count-count.ensures.seat ∙ held in (
      got.1,
      c.pass_on-in-Err.ensures.seat ∙ (λ i. (resting (now i).0, [])),
      others_now g.M.StateMachine.stands c.args.seat.now.me c.draw-ticket.new.seat.me c.wait_turn.new.seat.me c.draw-ticket.result c.draw-ticket.ensures.seat got,
      c.in-Err.ensures.does.1 (config_or c.args.seat.now.me.0.config) (got.1 ++ c.args.seat.now.me.0.seen) s,
      c.count-count.ensures.count ∙ ap (λ (n : Seated _). length n.0.seen) held,
      c.step-result.ensures.legal _ _ (subst (λ (m : _). g.M.StateMachine.stands m (config_or c.args.seat.now.me.0.config) (got.1 ++ c.args.seat.now.me.0.seen)) (sym c.in-Err.ensures.does.0) s),
    )
