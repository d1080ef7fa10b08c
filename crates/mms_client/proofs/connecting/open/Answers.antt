use Rattle.std.proofs.Common.{[], rules}
use Rattle.std.specs.Io.KnownBytes.{Appends}
use Rattle.tpkt_cotp.specs.Written.{call_of}
use Rattle.mms_client.specs.Following.{ends, HasCome}
use Rattle.mms_client.proofs.LinkLaws.{passed_on}
use Rattle.mms_client.proofs.ConnectLaws.{opens, open_fails}
use Rattle.mms_client.proofs.connecting.open.Goals as goal

pub returns-in_err-line-clause-opens : goal.returns-in_err-line-clause-opens
returns-in_err-line-clause-opens g c =
    let a = ends (g.L.Source.left c.args.link.now) (g.L.Sink.taken c.args.link.now) (g.L.Source.faults c.args.link.now) (g.L.Sink.faults c.args.link.now) in
    let m = ends (g.L.Source.left c.send.new.link) (g.L.Sink.taken c.send.new.link) (g.L.Source.faults c.send.new.link) (g.L.Sink.faults c.send.new.link) in
    let b = ends (g.L.Source.left c.wait.new.link) (g.L.Sink.taken c.wait.new.link) (g.L.Source.faults c.wait.new.link) (g.L.Sink.faults c.wait.new.link) in
    let start : HasCome c.new-stream.result [] [] = c.new-stream.ensures.come c.new-caller.ensures in
    passed_on c.from_residual-in_err-line.result c.in_err-line.field-0.0 _ _ c.from_residual-in_err-line.ensures.1
    (open_fails c.new-stream.result c.in_err-line.field-0.0 a m b start c.in_ok-send.ensures.left c.in_ok-send.ensures.reads c.in_ok-send.ensures.later c.in_err-line.ensures.steps)

pub returns-clause-opens : goal.returns-clause-opens
returns-clause-opens g c =
    let a = ends (g.L.Source.left c.args.link.now) (g.L.Sink.taken c.args.link.now) (g.L.Source.faults c.args.link.now) (g.L.Sink.faults c.args.link.now) in
    let m = ends (g.L.Source.left c.send.new.link) (g.L.Sink.taken c.send.new.link) (g.L.Source.faults c.send.new.link) (g.L.Sink.faults c.send.new.link) in
    let b = ends (g.L.Source.left c.wait.new.link) (g.L.Sink.taken c.wait.new.link) (g.L.Source.faults c.wait.new.link) (g.L.Sink.faults c.wait.new.link) in
    let start : HasCome c.new-stream.result [] [] = c.new-stream.ensures.come c.new-caller.ensures in
    let sent : Appends a.taken m.taken (call_of 1) = search rules in
    opens c.new-stream.result c.wait.new.stream c.in_ok-line.line a m b start c.in_ok-send.ensures.left sent c.in_ok-line.ensures.steps
