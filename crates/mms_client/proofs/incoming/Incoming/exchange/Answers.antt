use Rattle.mms_client.specs.Following.{ends}
use Rattle.mms_client.proofs.FollowLaws.{exchange_goes, exchange_writes}
use Rattle.mms_client.proofs.incoming.Incoming.exchange.Goals as goal

pub returns-clause-goes : goal.returns-clause-goes
returns-clause-goes g c =
    let a = ends (g.L.Source.left c.args.link.now) (g.L.Sink.taken c.args.link.now) (g.L.Source.faults c.args.link.now) (g.L.Sink.faults c.args.link.now) in
    let m = ends (g.L.Source.left c.send.new.link) (g.L.Sink.taken c.send.new.link) (g.L.Source.faults c.send.new.link) (g.L.Sink.faults c.send.new.link) in
    let b = ends (g.L.Source.left c.wait.new.link) (g.L.Sink.taken c.wait.new.link) (g.L.Source.faults c.wait.new.link) (g.L.Sink.faults c.wait.new.link) in
    exchange_goes c.args.self.now c.wait.new.self a m b c.args.awaited c.wait.result c.in_ok-send.ensures.left c.in_ok-send.ensures.reads c.in_ok-send.ensures.later c.wait.ensures.goes

pub returns-clause-writes : goal.returns-clause-writes
returns-clause-writes g c =
    let a = ends (g.L.Source.left c.args.link.now) (g.L.Sink.taken c.args.link.now) (g.L.Source.faults c.args.link.now) (g.L.Sink.faults c.args.link.now) in
    let m = ends (g.L.Source.left c.send.new.link) (g.L.Sink.taken c.send.new.link) (g.L.Source.faults c.send.new.link) (g.L.Sink.faults c.send.new.link) in
    let b = ends (g.L.Source.left c.wait.new.link) (g.L.Sink.taken c.wait.new.link) (g.L.Source.faults c.wait.new.link) (g.L.Sink.faults c.wait.new.link) in
    exchange_writes a m b c.args.octets.now c.wait.result c.in_ok-send.ensures.sends c.wait.ensures.reads.1
