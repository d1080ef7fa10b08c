use Rattle.mms_pdu.specs.Results.{seen_result}
use Rattle.mms_client.specs.declared.meaning.Awaited.TheVariants as awaits
use Rattle.mms_client.specs.declared.meaning.Outcome.TheVariants as outcomes
use Rattle.mms_client.specs.References.{reading_of}
use Rattle.mms_client.specs.Meaning.{AnswersRead}
use Rattle.mms_client.specs.Following.{ends}
use Rattle.mms_client.proofs.ClientLaws.{asks}
use Rattle.mms_client.proofs.client.Client.read.Goals as goal

pub returns-clause-asks : goal.returns-clause-asks
returns-clause-asks g c =
    let a = ends (g.L.Source.left c.args.link.now) (g.L.Sink.taken c.args.link.now) (g.L.Source.faults c.args.link.now) (g.L.Sink.faults c.args.link.now) in
    let b = ends (g.L.Source.left c.read-done.new.link) (g.L.Sink.taken c.read-done.new.link) (g.L.Source.faults c.read-done.new.link) (g.L.Sink.faults c.read-done.new.link) in
    asks c.args.self.now c.settle.new.self c.read-done.new.self a b (reading_of c.args.reference.now) (λ n. awaits.Read n) (λ v. outcomes.Read v) (λ v n y. AnswersRead n y (seen_result v)) c.settle.result c.read-done.result
    (λ v n y h. h) c.settle.ensures.same c.settle.ensures.association c.settle.ensures.none c.read-done.ensures.numbers c.read-done.ensures.bounded c.read-done.ensures.goes c.read-done.ensures.writes
