-- why `playing::play` answers as its contract says
use Rattle.std.proofs.Common.{ℕ, List, ◌∷◌, [], ◌++◌, length, get_or, Err, sym, ap, subst, ◌∙◌, arith, length-append}
use Rattle.history_lock.specs.Passes.{Known, Turned}
use Rattle.actor_scripts.specs.declared.script.TimedStep.{TimedStep}
use Rattle.actor_scripts.specs.declared.part.Reply.{Reply}
use Rattle.script_threads.specs.Playing.{Plays}
use Rattle.actor_scripts.proofs.Lists.{get_some}
use Rattle.script_threads.proofs.Plays.{plays_more, plays_still, refused_there}
use Rattle.script_threads.proofs.playing.play.Goals as goal

pub returns-in-Err-clause-plays : goal.returns-in-Err-clause-plays
returns-in-Err-clause-plays g c =
    let t = subst (λ e. Turned g.M.StateMachine.rules c.loop-timed.pass c.timed-item.result.moment c.timed-item.result.step (Err e) c.turn.new.pass) c.step_fault.ensures c.in-Err.ensures.turn in
    plays_still g.M.StateMachine.rules c.args.pass.now c.loop-timed.pass c.turn.new.pass c.args.steps.now c.loop-timed.replies.items c.timed-item.result c.step_fault.result
    c.loop-timed.invariant.0 c.requires.number c.in-Err.ensures.same t

pub returns-in-Err-clause-stops : goal.returns-in-Err-clause-stops
returns-in-Err-clause-stops g c =
    let t = subst (λ e. Turned g.M.StateMachine.rules c.loop-timed.pass c.timed-item.result.moment c.timed-item.result.step (Err e) c.turn.new.pass) c.step_fault.ensures c.in-Err.ensures.turn in
    refused_there g.M.StateMachine.rules c.args.pass.now c.loop-timed.pass c.turn.new.pass c.args.steps.now c.loop-timed.replies.items c.timed-item.result c.step_fault.result
    c.loop-timed.invariant.0 c.requires.number c.in-Err.ensures.same t
    (get_some c.args.steps.now (length c.loop-timed.replies.items) c.timed-item.result (omega (arith, c.loop-timed.invariant.1, c.loop-timed-test.true))
    (ap (λ (n : ℕ). get_or c.args.steps.now n c.timed-item.result) c.loop-timed.invariant.1 ∙ sym c.timed-item.is))

pub loop-timed-preserved : goal.loop-timed-preserved
loop-timed-preserved g c =
    let i = c.loop-timed.invariant in
    let t = c.in-Ok.ensures.turn in
    let s : TimedStep = c.timed-item.result in
    let reply : Reply = record { place = c.in-Ok.place; answer = c.in-Ok.answer } in
    let more : Plays g.M.StateMachine.rules c.args.pass.now c.args.steps.now (c.loop-timed.replies.items ++ reply ∷ []) c.turn.new.pass =
    plays_more g.M.StateMachine.rules c.args.pass.now c.loop-timed.pass c.turn.new.pass c.args.steps.now c.loop-timed.replies.items s c.in-Ok.answer c.in-Ok.place
    i.0 c.requires.number (omega (arith, i.1, c.loop-timed-test.true)) (c.timed-item.is ∙ ap (λ (n : ℕ). get_or c.args.steps.now n s) (sym i.1)) c.in-Ok.ensures.same c.in-Ok.ensures.own t in
    let turns = ap (λ (k : Known). k.left) t.3.0 in (
      subst (λ (rs : List Reply). Plays g.M.StateMachine.rules c.args.pass.now c.args.steps.now rs c.turn.new.pass) (sym c.push_reserved.ensures.items) more,
      omega (arith, i.1, ap (λ (rs : List Reply). length rs) c.push_reserved.ensures.items, length-append c.loop-timed.replies.items (reply ∷ [])),
      i.2 ∙ sym c.push_reserved.ensures.capacity,
      omega (arith, i.3, turns, t.0),
    )
