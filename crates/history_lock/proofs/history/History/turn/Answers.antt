-- why `history::History::turn` answers as its contract says
use Rattle.std.proofs.Common.{◌+◌, ◌-◌, ◌<◌, Ok, Err, subst}
use Rattle.history_lock.specs.declared.fault.TurnFault.TheVariants as faults
use Rattle.history_lock.specs.Passes.{Known, Turned}
use Rattle.history_lock.proofs.Passing.{known_of, turned_ok, turned_err, own_ok, own_err, told_ok, told_err, placed_ok, placed_err}
use Rattle.history_lock.proofs.history.History.turn.Goals as goal

pub returns-in-Ok-clause-turn : goal.returns-in-Ok-clause-turn
returns-in-Ok-clause-turn g c =
    subst (λ (p : Known). Turned g.M.StateMachine.rules p c.args.moment c.args.step.now (Ok (c.in-Ok.answer, c.in-Ok.place))
    (known_of record {
      seat = c.take_turn.new.seat;
      first = c.pass.inside.first;
      count = c.pass.inside.count;
      left = c.pass.inside.left - 1;
      seen = c.in-Ok.place + 1;
    })) c.pass.view_is
    (turned_ok g.M.StateMachine.rules c.pass.inside c.take_turn.new.seat (c.in-Ok.place + 1) c.args.moment c.in-Ok.answer c.in-Ok.place c.args.step.now c.pass.invariant.3
    c.if-pass-eq0.false c.in-Ok.ensures.table c.in-Ok.ensures.turn)

pub returns-in-Err-clause-turn : goal.returns-in-Err-clause-turn
returns-in-Err-clause-turn g c =
    subst (λ (p : Known). Turned g.M.StateMachine.rules p c.args.moment c.args.step.now (Err (faults.Step c.in-Err.fault))
    (known_of record {
      seat = c.take_turn.new.seat;
      first = c.pass.inside.first;
      count = c.pass.inside.count;
      left = c.pass.inside.left - 1;
      seen = c.in-Err.seen;
    })) c.pass.view_is
    (turned_err g.M.StateMachine.rules c.pass.inside c.take_turn.new.seat c.in-Err.seen c.args.moment c.in-Err.fault c.in-Err.seen c.args.step.now c.pass.invariant.3
    c.if-pass-eq0.false c.in-Err.ensures.table c.in-Err.ensures.turn)

pub returns-in-Ok-clause-own : goal.returns-in-Ok-clause-own
returns-in-Ok-clause-own g c =
    own_ok g.M.StateMachine.rules c.args.pass.now (known_of record {
      seat = c.take_turn.new.seat;
      first = c.pass.inside.first;
      count = c.pass.inside.count;
      left = c.pass.inside.left - 1;
      seen = c.in-Ok.place + 1;
    }) c.args.moment c.in-Ok.answer c.in-Ok.place c.args.step.now
    (subst (λ (p : Known). 0 < p.count) c.pass.view_is c.pass.invariant.0) (returns-in-Ok-clause-turn g c)

pub returns-in-Err-clause-own : goal.returns-in-Err-clause-own
returns-in-Err-clause-own g c =
    own_err g.M.StateMachine.rules c.args.pass.now (known_of record {
      seat = c.take_turn.new.seat;
      first = c.pass.inside.first;
      count = c.pass.inside.count;
      left = c.pass.inside.left - 1;
      seen = c.in-Err.seen;
    }) c.args.moment c.in-Err.fault c.args.step.now
    (subst (λ (p : Known). 0 < p.count) c.pass.view_is c.pass.invariant.0) (returns-in-Err-clause-turn g c)

pub returns-in-Ok-clause-told : goal.returns-in-Ok-clause-told
returns-in-Ok-clause-told g c =
    told_ok g.M.StateMachine.rules c.args.pass.now (known_of record {
      seat = c.take_turn.new.seat;
      first = c.pass.inside.first;
      count = c.pass.inside.count;
      left = c.pass.inside.left - 1;
      seen = c.in-Ok.place + 1;
    }) c.args.moment c.in-Ok.answer c.in-Ok.place c.args.step.now
    (subst (λ (p : Known). 0 < p.count) c.pass.view_is c.pass.invariant.0) (returns-in-Ok-clause-turn g c)

pub returns-in-Err-clause-told : goal.returns-in-Err-clause-told
returns-in-Err-clause-told g c =
    told_err g.M.StateMachine.rules c.args.pass.now (known_of record {
      seat = c.take_turn.new.seat;
      first = c.pass.inside.first;
      count = c.pass.inside.count;
      left = c.pass.inside.left - 1;
      seen = c.in-Err.seen;
    }) c.args.moment c.in-Err.fault c.args.step.now
    (subst (λ (p : Known). 0 < p.count) c.pass.view_is c.pass.invariant.0) (returns-in-Err-clause-turn g c)

pub returns-in-Ok-clause-placed : goal.returns-in-Ok-clause-placed
returns-in-Ok-clause-placed g c =
    placed_ok g.M.StateMachine.rules c.args.pass.now (known_of record {
      seat = c.take_turn.new.seat;
      first = c.pass.inside.first;
      count = c.pass.inside.count;
      left = c.pass.inside.left - 1;
      seen = c.in-Ok.place + 1;
    }) c.args.moment c.in-Ok.answer c.in-Ok.place c.args.step.now
    (subst (λ (p : Known). 0 < p.count) c.pass.view_is c.pass.invariant.0) (returns-in-Ok-clause-turn g c)

pub returns-in-Err-clause-placed : goal.returns-in-Err-clause-placed
returns-in-Err-clause-placed g c =
    placed_err g.M.StateMachine.rules c.args.pass.now (known_of record {
      seat = c.take_turn.new.seat;
      first = c.pass.inside.first;
      count = c.pass.inside.count;
      left = c.pass.inside.left - 1;
      seen = c.in-Err.seen;
    }) c.args.moment c.in-Err.fault c.args.step.now
    (subst (λ (p : Known). 0 < p.count) c.pass.view_is c.pass.invariant.0) (returns-in-Err-clause-turn g c)
