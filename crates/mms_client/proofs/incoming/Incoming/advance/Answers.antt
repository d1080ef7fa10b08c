use Rattle.std.proofs.Common.{refl}
use Rattle.mms_client.specs.declared.incoming.Incoming.{Incoming}
use Rattle.mms_client.specs.Following.{ends}
use Rattle.mms_client.proofs.FollowLaws.{event_goes}
use Rattle.mms_client.proofs.incoming.Incoming.advance.Goals as goal

pub returns-in-Some-clause-goes : goal.returns-in-Some-clause-goes
returns-in-Some-clause-goes g c =
    let a = ends (g.L.Source.left c.args.link.now) (g.L.Sink.taken c.args.link.now) (g.L.Source.faults c.args.link.now) (g.L.Sink.faults c.args.link.now) in
    let new : Incoming = record { stream = c.next.new.self; reports = c.take_event.new.self } in
    event_goes c.args.self.now new c.in-Some.event a a c.args.awaited c.take_event.result refl c.in-Some.ensures c.take_event.ensures.takes
