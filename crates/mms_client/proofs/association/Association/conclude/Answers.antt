use Rattle.std.proofs.Common.{rules}
use Rattle.std.specs.Io.KnownBytes.{Appends}
use Rattle.sv_io.specs.Causes.{GrowsByFront}
use Rattle.mms_client.specs.declared.fault.ClientFault.TheVariants as faults
use Rattle.mms_client.specs.Requests.{conclude_octets, finish_octets}
use Rattle.mms_client.specs.Following.{ends}
use Rattle.mms_client.proofs.LinkLaws.{passed_on}
use Rattle.mms_client.proofs.FollowLaws.{end_memory, end_fails, end_goes}
use Rattle.mms_client.proofs.association.Association.conclude.Goals as goal

pub returns-in_err-finish-clause-goes : goal.returns-in_err-finish-clause-goes
returns-in_err-finish-clause-goes g c =
    let a = ends (g.L.Source.left c.args.link.now) (g.L.Sink.taken c.args.link.now) (g.L.Source.faults c.args.link.now) (g.L.Sink.faults c.args.link.now) in
    let m = ends (g.L.Source.left c.exchange.new.link) (g.L.Sink.taken c.exchange.new.link) (g.L.Source.faults c.exchange.new.link) (g.L.Sink.faults c.exchange.new.link) in
    let line = c.args.self.now.line in
    let sent : Appends a.taken m.taken (conclude_octets line) = search rules in
    passed_on c.from_residual-in_err-finish.result faults.Memory _ _ c.from_residual-in_err-finish.ensures.1
    (end_memory c.args.self.now.incoming c.exchange.new.self a m c.in_ok-exchange.field-0 (conclude_octets line) (finish_octets line) c.in_ok-exchange.ensures.goes sent)

pub returns-in_err-exchange-2-clause-goes : goal.returns-in_err-exchange-2-clause-goes
returns-in_err-exchange-2-clause-goes g c =
    let a = ends (g.L.Source.left c.args.link.now) (g.L.Sink.taken c.args.link.now) (g.L.Source.faults c.args.link.now) (g.L.Sink.faults c.args.link.now) in
    let m = ends (g.L.Source.left c.exchange.new.link) (g.L.Sink.taken c.exchange.new.link) (g.L.Source.faults c.exchange.new.link) (g.L.Sink.faults c.exchange.new.link) in
    let b = ends (g.L.Source.left c.exchange-2.new.link) (g.L.Sink.taken c.exchange-2.new.link) (g.L.Source.faults c.exchange-2.new.link) (g.L.Sink.faults c.exchange-2.new.link) in
    let line = c.args.self.now.line in
    let sent : Appends a.taken m.taken (conclude_octets line) = search rules in
    let front : GrowsByFront m.taken b.taken (finish_octets line) = search rules in
    passed_on c.from_residual-in_err-exchange-2.result c.in_err-exchange-2.field-0.0 _ _ c.from_residual-in_err-exchange-2.ensures.1
    (end_fails c.args.self.now.incoming c.exchange.new.self a m b c.in_ok-exchange.field-0 (conclude_octets line) (finish_octets line) c.in_err-exchange-2.field-0.0 c.in_ok-exchange.ensures.later c.in_ok-exchange.ensures.goes sent c.in_err-exchange-2.ensures.goes front)

pub returns-clause-goes : goal.returns-clause-goes
returns-clause-goes g c =
    let a = ends (g.L.Source.left c.args.link.now) (g.L.Sink.taken c.args.link.now) (g.L.Source.faults c.args.link.now) (g.L.Sink.faults c.args.link.now) in
    let m = ends (g.L.Source.left c.exchange.new.link) (g.L.Sink.taken c.exchange.new.link) (g.L.Source.faults c.exchange.new.link) (g.L.Sink.faults c.exchange.new.link) in
    let b = ends (g.L.Source.left c.exchange-2.new.link) (g.L.Sink.taken c.exchange-2.new.link) (g.L.Source.faults c.exchange-2.new.link) (g.L.Sink.faults c.exchange-2.new.link) in
    let line = c.args.self.now.line in
    let sent : Appends a.taken m.taken (conclude_octets line) = search rules in
    let finished : Appends m.taken b.taken (finish_octets line) = search rules in
    end_goes c.args.self.now.incoming c.exchange.new.self c.exchange-2.new.self a m b c.in_ok-exchange.field-0 c.in_ok-exchange-2.field-0 (conclude_octets line) (finish_octets line) c.in_ok-exchange.ensures.goes sent c.in_ok-exchange-2.ensures.goes finished
