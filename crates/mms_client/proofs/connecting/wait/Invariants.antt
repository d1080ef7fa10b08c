-- what the loop of `connecting::wait` keeps
use Rattle.std.proofs.Common.{None}
use Rattle.std.specs.List.{AllByRecursion}
use Rattle.osi_stack.specs.Lines.{HasLine}
use Rattle.mms_client.specs.Following.{ends, IsLater}
use Rattle.mms_client.specs.Opening.{StepsOn}
use Rattle.mms_client.proofs.connecting.wait.Given as goal

abbrev pub invariant-loop : goal.invariant-loop
invariant-loop g l =
    let a = ends (g.L.Source.left l.fn.link) (g.L.Sink.taken l.fn.link) (g.L.Source.faults l.fn.link) (g.L.Sink.faults l.fn.link) in
    let b = ends (g.L.Source.left l.link) (g.L.Sink.taken l.link) (g.L.Source.faults l.link) (g.L.Sink.faults l.link) in
    StepsOn l.fn.stream l.stream a b None × AllByRecursion HasLine l.stream.waiting.items × IsLater a b
