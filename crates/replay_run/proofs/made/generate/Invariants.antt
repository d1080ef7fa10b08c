-- what the loop of `made::generate` keeps, and why it ends
use Rattle.std.proofs.Common.{◌≤◌, length}
use Rattle.made_records.specs.Texts.{made_record}
use Rattle.replay_run.proofs.Writing.{WrittenSoFar}
use Rattle.replay_run.proofs.made.generate.Given as goal

abbrev pub invariant-loop-record : goal.invariant-loop-record
invariant-loop-record g l = record {
  written : WrittenSoFar (g.K.Sink.taken l.fn.sink) (g.K.Sink.taken l.sink) (made_record l.fn.asked.seed l.fn.asked.count) l.record;
  later : g.K.Sink.faults l.fn.sink ≤ g.K.Sink.faults l.sink;
}

abbrev pub decreases-loop-record : goal.decreases-loop-record
decreases-loop-record g l = length l.record
