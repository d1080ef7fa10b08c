use Rattle.std.proofs.Common.{rules, subst}
use Rattle.std.specs.Io.KnownBytes.{Appends}
use Rattle.osi_stack.specs.Framed.{framed}
use Rattle.mms_client.specs.declared.fault.ClientFault.TheVariants as faults
use Rattle.mms_client.specs.declared.meaning.Awaited.TheVariants as awaits
use Rattle.mms_client.specs.declared.meaning.Outcome.{Outcome}
use Rattle.mms_client.specs.References.{writing_of}
use Rattle.mms_client.specs.Requests.{pdu_of}
use Rattle.mms_client.specs.Following.{ends, GoesOn, Brings}
use Rattle.mms_client.proofs.LinkLaws.{front_whole}
use Rattle.mms_client.proofs.FollowLaws.{other_write}
use Rattle.mms_client.proofs.association.Association.write.Goals as goal

pub returns-in-Written-clause-goes : goal.returns-in-Written-clause-goes
returns-in-Written-clause-goes g c =
    subst (λ (o : Outcome). GoesOn c.args.self.now.incoming c.exchange.new.self (g.L.Source.left c.args.link.now) (g.L.Source.left c.exchange.new.link) (Brings (awaits.Write c.args.self.now.invoke) o)) c.in-Written.is c.in_ok-result.ensures.goes

pub returns : goal.returns
returns g c =
    let a = ends (g.L.Source.left c.args.link.now) (g.L.Sink.taken c.args.link.now) (g.L.Source.faults c.args.link.now) (g.L.Sink.faults c.args.link.now) in
    let b = ends (g.L.Source.left c.exchange.new.link) (g.L.Sink.taken c.exchange.new.link) (g.L.Source.faults c.exchange.new.link) (g.L.Sink.faults c.exchange.new.link) in
    let sent : Appends a.taken b.taken (framed c.args.self.now.line (pdu_of c.args.self.now.invoke (writing_of c.args.reference.now c.args.value.now))) = search rules in
    record {
      goes = other_write c.args.self.now.incoming c.exchange.new.self a b c.args.self.now.invoke (faults.Peer 5 6) c.in_ok-result.field-0 c.in_default.not-Written c.in_ok-result.ensures.goes;
      writes = front_whole a.taken b.taken (framed c.args.self.now.line (pdu_of c.args.self.now.invoke (writing_of c.args.reference.now c.args.value.now))) sent;
      numbers = search rules;
      later = c.in_ok-result.ensures.later;
      bounded = c.in_ok-result.ensures.bounded;
    }
