-- why `replay::take_piece` answers as its contract says
use Rattle.std.proofs.Common.{◌++◌, ap, subst, ◌∙◌}
use Rattle.std.specs.Io.KnownBytes.{Appends}
use Rattle.record_session.proofs.Fronts.{begins-none, begins-front, begins-all}
use Rattle.record_session.proofs.replay.take_piece.Goals as goal

pub returns-in-Ok-flush-clause-takes : goal.returns-in-Ok-flush-clause-takes
returns-in-Ok-flush-clause-takes g c = λ so_far written f.
    let fed = c.in-Ok.ensures.feeds so_far written f in
    record {
      added = fed.added;
      taken = subst (λ o. Appends (g.K.Sink.taken c.args.sink.now) (g.K.Sink.taken c.flush.new.sink) o) (fed.out ∙ ap (λ o. o ++ fed.added) c.requires.empty) c.in-Ok-flush.ensures.taken;
      on = fed.on;
    }

pub returns-in-Ok-flush-clause-front : goal.returns-in-Ok-flush-clause-front
returns-in-Ok-flush-clause-front g c = begins-all c.in-Ok.stop c.args.reader.now c.feed.new.self c.args.piece.now c.args.out.now.items c.feed.new.out.items (g.K.Sink.taken c.args.sink.now) (g.K.Sink.taken c.flush.new.sink)
    c.requires.empty c.in-Ok.ensures.feeds c.in-Ok-flush.ensures.taken

pub returns-in-Err-flush-clause-front : goal.returns-in-Err-flush-clause-front
returns-in-Err-flush-clause-front g c = begins-front c.in-Ok.stop c.args.reader.now c.feed.new.self c.args.piece.now c.args.out.now.items c.feed.new.out.items (g.K.Sink.taken c.args.sink.now) (g.K.Sink.taken c.flush.new.sink)
    c.requires.empty c.in-Ok.ensures.feeds c.in-Err-flush.ensures.front

pub returns-in-Err-clause-front : goal.returns-in-Err-clause-front
returns-in-Err-clause-front g c = begins-none c.args.reader.now c.args.piece.now (g.K.Sink.taken c.args.sink.now)
