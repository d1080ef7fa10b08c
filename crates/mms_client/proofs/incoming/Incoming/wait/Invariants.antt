-- what the loop of `incoming::Incoming::wait` keeps
use Rattle.mms_client.specs.Following.{ends, GoesOn, OnlyReads, IsBounded}
use Rattle.mms_client.proofs.FollowLaws.{Quiet}
use Rattle.mms_client.proofs.incoming.Incoming.wait.Given as goal

abbrev pub invariant-loop : goal.invariant-loop
invariant-loop g l =
    let a = ends (g.L.Source.left l.fn.link) (g.L.Sink.taken l.fn.link) (g.L.Source.faults l.fn.link) (g.L.Sink.faults l.fn.link) in
    let b = ends (g.L.Source.left l.link) (g.L.Sink.taken l.link) (g.L.Source.faults l.link) (g.L.Sink.faults l.link) in
    GoesOn l.fn.self l.self a.left b.left Quiet × OnlyReads a b × (IsBounded l.fn.self → IsBounded l.self)
