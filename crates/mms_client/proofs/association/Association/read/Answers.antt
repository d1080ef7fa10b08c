use Rattle.std.proofs.Common.{rules, subst}
use Rattle.std.specs.Io.KnownBytes.{Appends}
use Rattle.osi_stack.specs.Framed.{framed}
use Rattle.mms_client.specs.declared.fault.ClientFault.TheVariants as faults
use Rattle.mms_client.specs.declared.meaning.Awaited.TheVariants as awaits
use Rattle.mms_client.specs.declared.meaning.Outcome.{Outcome}
use Rattle.mms_client.specs.References.{reading_of}
use Rattle.mms_client.specs.Requests.{pdu_of}
use Rattle.mms_client.specs.Following.{ends, GoesOn, Brings}
use Rattle.mms_client.proofs.LinkLaws.{front_whole}
use Rattle.mms_client.proofs.FollowLaws.{other_read}
use Rattle.mms_client.proofs.association.Association.read.Goals as goal

pub returns-in-Read-clause-goes : goal.returns-in-Read-clause-goes
returns-in-Read-clause-goes g c =
    subst (λ (o : Outcome). GoesOn c.args.self.now.incoming c.exchange.new.self (g.L.Source.left c.args.link.now) (g.L.Source.left c.exchange.new.link) (Brings (awaits.Read c.args.self.now.invoke) o)) c.in-Read.is c.in_ok-result.ensures.goes

pub returns : goal.returns
returns g c =
    let a = ends (g.L.Source.left c.args.link.now) (g.L.Sink.taken c.args.link.now) (g.L.Source.faults c.args.link.now) (g.L.Sink.faults c.args.link.now) in
    let b = ends (g.L.Source.left c.exchange.new.link) (g.L.Sink.taken c.exchange.new.link) (g.L.Source.faults c.exchange.new.link) (g.L.Sink.faults c.exchange.new.link) in
    let sent : Appends a.taken b.taken (framed c.args.self.now.line (pdu_of c.args.self.now.invoke (reading_of c.args.reference.now))) = search rules in
    record {
      goes = other_read c.args.self.now.incoming c.exchange.new.self a b c.args.self.now.invoke (faults.Peer 5 6) c.in_ok-result.field-0 c.in_default.not-Read c.in_ok-result.ensures.goes;
      writes = front_whole a.taken b.taken (framed c.args.self.now.line (pdu_of c.args.self.now.invoke (reading_of c.args.reference.now))) sent;
      numbers = search rules;
      later = c.in_ok-result.ensures.later;
      bounded = c.in_ok-result.ensures.bounded;
    }
