-- why `replay::run` answers as its contract says
use Rattle.std.proofs.Common.{arith, ◌-◌}
use Rattle.sv_io.proofs.TakenLaws.{takes-none, takes-more}
use Rattle.record_session.proofs.replay.run.Goals as goal

pub returns-in-Some-clause-told : goal.returns-in-Some-clause-told
returns-in-Some-clause-told g c = λ left taken r j.
    let turns = rw c.in-Some.is at c.turn.ensures.turns in
    turns left taken (c.loop-replay.invariant.run left taken r) j

pub loop-replay-preserved : goal.loop-replay-preserved
loop-replay-preserved g c =
    let turns = rw c.in_default.is at c.turn.ensures.turns in
    let ready = rw c.in_default.is at c.turn.ensures.ready in
    let further = rw c.in_default.is at c.turn.ensures.further in
    let counted = rw c.in_default.is at c.turn.ensures.counted in
    record {
      ready = ready;
      piece = omega (arith, c.turn.auto.piece, c.loop-replay.invariant.piece);
      run = λ left taken r. turns left taken (c.loop-replay.invariant.run left taken r);
      start = omega (arith, c.loop-replay.invariant.start, further);
      taken = takes-more _ _ (c.turn.new.self.count - c.args.replay.now.count) (g.S.Source.left c.args.source.now) (g.S.Source.left c.loop-replay.source) (g.S.Source.left c.turn.new.source) c.loop-replay.invariant.taken counted
          (omega (arith, c.loop-replay.invariant.start, further));
      reads = omega (arith, c.loop-replay.invariant.reads, c.turn.ensures.later.0);
      writes = omega (arith, c.loop-replay.invariant.writes, c.turn.ensures.later.1);
    }

pub returns-clause-told : goal.returns-clause-told
returns-clause-told g c = λ left taken r j. c.at_limit.ensures.told left taken (g.K.Sink.taken c.loop-replay.sink) (c.loop-replay.invariant.run left taken r) j

pub loop-replay-init : goal.loop-replay-init
loop-replay-init g c = record {
  ready = c.requires.ready;
  piece = c.requires.some;
  run = λ left taken r. r;
  start = omega arith;
  taken = takes-none _ (g.S.Source.left c.args.source.now);
  reads = omega arith;
  writes = omega arith;
}

pub returns-in-Some-clause-taken : goal.returns-in-Some-clause-taken
returns-in-Some-clause-taken g c = takes-more _ _ (67108865 - c.args.replay.now.count) (g.S.Source.left c.args.source.now) (g.S.Source.left c.loop-replay.source) (g.S.Source.left c.turn.new.source) c.loop-replay.invariant.taken c.turn.ensures.taken
    (omega (arith, c.loop-replay.invariant.start, c.loop-replay.invariant.ready.within))

pub returns-clause-taken : goal.returns-clause-taken
returns-clause-taken g c = takes-more _ _ (67108865 - c.args.replay.now.count) (g.S.Source.left c.args.source.now) (g.S.Source.left c.loop-replay.source) (g.S.Source.left c.at_limit.new.source) c.loop-replay.invariant.taken c.at_limit.ensures.taken
    (omega (arith, c.loop-replay.invariant.start, c.loop-replay.invariant.ready.within))

pub returns-in-Some-clause-front : goal.returns-in-Some-clause-front
returns-in-Some-clause-front g c = λ left taken r. c.turn.ensures.front left taken (c.loop-replay.invariant.run left taken r)

pub returns-clause-front : goal.returns-clause-front
returns-clause-front g c = λ left taken r. c.at_limit.ensures.front (g.K.Sink.taken c.loop-replay.sink) left taken (c.loop-replay.invariant.run left taken r)
