-- why `tool::tool` answers as its contract says
use Rattle.std.proofs.Common.{subst}
use Rattle.std.specs.Io.KnownBytes.{Appends}
use Rattle.made_records.specs.Texts.{made_record}
use Rattle.replay_run.specs.declared.made.Asked.{Asked}
use Rattle.replay_run.proofs.Asking.{same}
use Rattle.replay_run.proofs.tool.tool.Goals as goal

pub returns-in-Some-clause-generated : goal.returns-in-Some-clause-generated
returns-in-Some-clause-generated g c = λ seed count asks ok. subst (λ (a : Asked). Appends (g.K.Sink.taken c.args.sink.now) (g.K.Sink.taken c.generate.new.sink) (made_record a.seed a.count))
    (same c.in-Some.asked (record { seed = seed; count = count }) (c.in-Some.ensures.each seed count asks)) (c.generate.ensures.told ok)
