use Rattle.mms_client.specs.Following.{ends}
use Rattle.mms_client.proofs.ClientLaws.{report_gives}
use Rattle.mms_client.proofs.client.Client.next_report.Goals as goal

pub returns-clause-gives : goal.returns-clause-gives
returns-clause-gives g c =
    let a = ends (g.L.Source.left c.args.link.now) (g.L.Sink.taken c.args.link.now) (g.L.Source.faults c.args.link.now) (g.L.Sink.faults c.args.link.now) in
    let b = ends (g.L.Source.left c.report-done.new.link) (g.L.Sink.taken c.report-done.new.link) (g.L.Source.faults c.report-done.new.link) (g.L.Sink.faults c.report-done.new.link) in
    report_gives c.args.self.now c.settle.new.self c.report-done.new.self a b c.settle.result c.report-done.result c.settle.ensures.same c.settle.ensures.association c.settle.ensures.none c.report-done.ensures.reads c.report-done.ensures.bounded c.report-done.ensures.goes
