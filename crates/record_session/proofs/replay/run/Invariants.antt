-- what the loops of `replay::run` keep, and why they end
use Rattle.std.proofs.Common.{◌≤◌, ◌<◌, ◌-◌, ℕ, List, length}
use Rattle.std.specs.Prelude.{Option}
use Rattle.record_session.specs.Runs.{IsReady, Run}
use Rattle.sv_io.specs.Taken.{TakesAtMost}
use Rattle.record_session.proofs.replay.run.Given as goal

abbrev pub invariant-loop-replay : goal.invariant-loop-replay
invariant-loop-replay g l = record {
  ready : IsReady l.replay;
  piece : 0 < length l.piece;
  run : (left taken : Option (List ℕ)) → Run l.fn.replay.reader left (g.S.Source.left l.fn.source) taken (g.K.Sink.taken l.fn.sink) l.fn.replay.count
      → Run l.replay.reader left (g.S.Source.left l.source) taken (g.K.Sink.taken l.sink) l.replay.count;
  start : l.fn.replay.count ≤ l.replay.count;
  taken : TakesAtMost (l.replay.count - l.fn.replay.count) (g.S.Source.left l.fn.source) (g.S.Source.left l.source);
  reads : g.S.Source.faults l.fn.source ≤ g.S.Source.faults l.source;
  writes : g.K.Sink.faults l.fn.sink ≤ g.K.Sink.faults l.sink;
}

abbrev pub decreases-loop-replay : goal.decreases-loop-replay
decreases-loop-replay g l = 67108864 - l.replay.count
