use Rattle.std.proofs.Common.{sym, subst}
use Rattle.std.proofs.KnownBytes.{Consumes-nil}
use Rattle.mms_client.specs.declared.fault.ClientFault.{ClientFault}
use Rattle.mms_client.specs.Following.{ends, CannotRead}
use Rattle.mms_client.proofs.StreamLaws.{cannot_go_on}
use Rattle.mms_client.proofs.stream.Stream.fill.Goals as goal

pub returns-in-Some-clause-reads : goal.returns-in-Some-clause-reads
returns-in-Some-clause-reads g c =
    let a = ends (g.L.Source.left c.args.link.now) (g.L.Sink.taken c.args.link.now) (g.L.Source.faults c.args.link.now) (g.L.Sink.faults c.args.link.now) in
    subst (λ (f : ClientFault). CannotRead c.args.self.now a a f) (sym c.from.ensures) (cannot_go_on c.args.self.now a a c.in-Some.fault c.in-Some.is (Consumes-nil a.left))
