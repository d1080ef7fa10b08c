-- why `replay::replay_record` answers as its contract says
use Rattle.record_outcome.proofs.CompleteLaws.{judged, refused-none}
use Rattle.record_outcome.proofs.HistoryLaws.{writes-history}
use Rattle.record_session.proofs.replay.replay_record.Goals as goal

pub returns-clause-told : goal.returns-clause-told
returns-clause-told g c = λ j. c.run-status.ensures.told (g.S.Source.left c.args.source.now) (g.K.Sink.taken c.args.sink.now) (c.new-replay.ensures.run (g.S.Source.left c.args.source.now) (g.K.Sink.taken c.args.sink.now)) j

pub returns-clause-history : goal.returns-clause-history
returns-clause-history g c = λ j. writes-history (g.S.Source.left c.args.source.now) c.run-status.result (g.K.Sink.taken c.args.sink.now) (g.K.Sink.taken c.run-status.new.sink)
    (c.run-status.ensures.told (g.S.Source.left c.args.source.now) (g.K.Sink.taken c.args.sink.now) (c.new-replay.ensures.run (g.S.Source.left c.args.source.now) (g.K.Sink.taken c.args.sink.now)) j)

pub returns-clause-whole : goal.returns-clause-whole
returns-clause-whole g c = λ r. refused-none c.run-status.result (g.S.Source.left c.args.source.now) (g.K.Sink.taken c.args.sink.now) (g.K.Sink.taken c.run-status.new.sink) r
    (c.run-status.ensures.told (g.S.Source.left c.args.source.now) (g.K.Sink.taken c.args.sink.now) (c.new-replay.ensures.run (g.S.Source.left c.args.source.now) (g.K.Sink.taken c.args.sink.now)) (judged c.run-status.result r))

pub returns-clause-front : goal.returns-clause-front
returns-clause-front g c =
    c.run-status.ensures.front (g.S.Source.left c.args.source.now) (g.K.Sink.taken c.args.sink.now) (c.new-replay.ensures.run (g.S.Source.left c.args.source.now) (g.K.Sink.taken c.args.sink.now))
