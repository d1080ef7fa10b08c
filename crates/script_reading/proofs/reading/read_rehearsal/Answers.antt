-- why `reading::read_rehearsal` answers as its contract says
use Rattle.std.proofs.Common.{not, take, refl, ap, subst, ◌∙◌}
use Rattle.std.proofs.lemmas.Result.{IfOk-weaker}
use Rattle.record_outcome.specs.Records.{limit}
use Rattle.script_reading.specs.Readings.{LinesRead}
use Rattle.script_reading.proofs.ReadingLaws.{take-min, concludes, read-plan}
use Rattle.script_reading.proofs.reading.read_rehearsal.Goals as goal

pub returns-in-Ok-clause-reads : goal.returns-in-Ok-clause-reads
returns-in-Ok-clause-reads c =
    let read = subst (LinesRead c.in-Ok.next c.in-Ok.rest.now c.new-session.result c.read_lines.new.session) (ap (λ n. take n c.args.octets.now) c.min.ensures ∙ take-min limit c.args.octets.now) c.in-Ok.ensures.read in
    IfOk-weaker c.conclude.result _ _
    (λ r made. concludes r c.in-Ok.next c.in-Ok.rest.now c.args.octets.now c.new-session.result c.read_lines.new.session _ _ c.new-session.ensures read refl (ap not c.is_empty.ensures) made) c.conclude.ensures.reads

pub returns-in-Ok-clause-plan : goal.returns-in-Ok-clause-plan
returns-in-Ok-clause-plan c = IfOk-weaker c.conclude.result _ _ (λ r reads. read-plan r c.args.octets.now reads) (returns-in-Ok-clause-reads c)
