-- what the loop of `writing::take_all` keeps
use Rattle.std.proofs.Common.{◌≤◌}
use Rattle.assoc_workers.specs.Made.{IsOf}
use Rattle.assoc_workers.proofs.WriteLaws.{TakesSoFar}
use Rattle.assoc_workers.proofs.writing.take_all.Given as goal

abbrev pub invariant-loop : goal.invariant-loop
invariant-loop g l =
    TakesSoFar g.M.StateMachine.rules l.history.config l.fn.a l.line (g.C.Clock.moment l.clock) l.initial.pass l.pass (g.K.Sink.taken l.initial.sink) (g.K.Sink.taken l.sink)
    × IsOf l.history l.pass × (g.K.Sink.faults l.initial.sink ≤ g.K.Sink.faults l.sink)
