use Rattle.mms_client.specs.declared.meaning.Awaited.TheVariants as awaits
use Rattle.mms_client.specs.declared.meaning.Outcome.TheVariants as outcomes
use Rattle.mms_client.specs.References.{writing_of}
use Rattle.mms_client.specs.Meaning.{AnswersWrite}
use Rattle.mms_client.specs.Following.{ends}
use Rattle.mms_client.proofs.ClientLaws.{asks}
use Rattle.mms_client.proofs.client.Client.write.Goals as goal

pub returns-clause-asks : goal.returns-clause-asks
returns-clause-asks g c =
    let a = ends (g.L.Source.left c.args.link.now) (g.L.Sink.taken c.args.link.now) (g.L.Source.faults c.args.link.now) (g.L.Sink.faults c.args.link.now) in
    let b = ends (g.L.Source.left c.write-done.new.link) (g.L.Sink.taken c.write-done.new.link) (g.L.Source.faults c.write-done.new.link) (g.L.Sink.faults c.write-done.new.link) in
    asks c.args.self.now c.settle.new.self c.write-done.new.self a b (writing_of c.args.reference.now c.args.value.now) (λ n. awaits.Write n) (λ v. outcomes.Written v) (λ v n y. AnswersWrite n y v) c.settle.result c.write-done.result
    (λ v n y h. h) c.settle.ensures.same c.settle.ensures.association c.settle.ensures.none c.write-done.ensures.numbers c.write-done.ensures.bounded c.write-done.ensures.goes c.write-done.ensures.writes
