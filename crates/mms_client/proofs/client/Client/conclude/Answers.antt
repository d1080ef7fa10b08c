use Rattle.mms_client.specs.Following.{ends}
use Rattle.mms_client.proofs.ClientLaws.{concludes}
use Rattle.mms_client.proofs.client.Client.conclude.Goals as goal

pub returns-clause-concludes : goal.returns-clause-concludes
returns-clause-concludes g c =
    let a = ends (g.L.Source.left c.args.link.now) (g.L.Sink.taken c.args.link.now) (g.L.Source.faults c.args.link.now) (g.L.Sink.faults c.args.link.now) in
    let b = ends (g.L.Source.left c.conclude.new.link) (g.L.Sink.taken c.conclude.new.link) (g.L.Source.faults c.conclude.new.link) (g.L.Sink.faults c.conclude.new.link) in
    concludes c.args.self a b c.conclude.result c.conclude.ensures.goes
