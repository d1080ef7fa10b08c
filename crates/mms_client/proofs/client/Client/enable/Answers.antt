use Rattle.mms_client.specs.declared.meaning.Awaited.TheVariants as awaits
use Rattle.mms_client.specs.declared.meaning.Outcome.TheVariants as outcomes
use Rattle.mms_client.specs.References.{enabling}
use Rattle.mms_client.specs.Meaning.{AnswersWrite}
use Rattle.mms_client.specs.Following.{ends}
use Rattle.mms_client.proofs.ClientLaws.{asks}
use Rattle.mms_client.proofs.client.Client.enable.Goals as goal

pub returns-clause-asks : goal.returns-clause-asks
returns-clause-asks g c =
    let a = ends (g.L.Source.left c.args.link.now) (g.L.Sink.taken c.args.link.now) (g.L.Source.faults c.args.link.now) (g.L.Sink.faults c.args.link.now) in
    let b = ends (g.L.Source.left c.enable-done.new.link) (g.L.Sink.taken c.enable-done.new.link) (g.L.Source.faults c.enable-done.new.link) (g.L.Sink.faults c.enable-done.new.link) in
    asks c.args.self.now c.settle.new.self c.enable-done.new.self a b (enabling c.args.block.now) (λ n. awaits.Write n) (λ v. outcomes.Written v) (λ v n y. AnswersWrite n y v) c.settle.result c.enable-done.result
    (λ v n y h. h) c.settle.ensures.same c.settle.ensures.association c.settle.ensures.none c.enable-done.ensures.numbers c.enable-done.ensures.bounded c.enable-done.ensures.goes c.enable-done.ensures.writes
