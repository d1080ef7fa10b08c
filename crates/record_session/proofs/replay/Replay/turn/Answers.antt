-- why `replay::Replay::turn` answers as its contract says
use Rattle.std.proofs.Common.{◌≡◌, ◌≤◌, ◌+◌, [], length, take, subst, arith, length-take}
use Rattle.std.specs.Io.KnownBytes.{Consumes}
use Rattle.record_session.specs.Runs.{Run}
use Rattle.record_session.proofs.Judging.{run-more, run-stops, run-ends}
use Rattle.record_session.proofs.Fronts.{run-front, piece-front}
use Rattle.record_outcome.specs.declared.status.Status.TheVariants as statuses
use Rattle.record_outcome.proofs.StatusLaws.{judged_replay, judged_read, judged_write}
use Rattle.record_session.proofs.replay.Replay.turn.Goals as goal

pub returns-then-length-eq0-clause-turns : goal.returns-then-length-eq0-clause-turns
returns-then-length-eq0-clause-turns g c = λ left taken r j.
    let none : Consumes (g.S.Source.left c.args.source.now) (g.S.Source.left c.read_piece.new.source) [] = subst (λ n. Consumes (g.S.Source.left c.args.source.now) (g.S.Source.left c.read_piece.new.source) (take n c.read_piece.new.buf)) c.if-length-eq0.true c.in-Ok.ensures.bytes.0 in
    run-ends c.args.self.now.reader left (g.S.Source.left c.args.source.now) (g.S.Source.left c.read_piece.new.source) taken (g.K.Sink.taken c.args.sink.now) c.args.self.now.count _ r none
    (c.in-Ok.ensures.bytes.1 c.if-length-eq0.true) c.requires.ready.part c.requires.ready.within (c.end.ensures.status j)

pub returns-in-Ok-None-clause-turns : goal.returns-in-Ok-None-clause-turns
returns-in-Ok-None-clause-turns g c = λ left taken r.
    let eaten : Consumes (g.S.Source.left c.args.source.now) (g.S.Source.left c.read_piece.new.source) (take c.in-Ok.length c.read_piece.new.buf) = c.in-Ok.ensures.bytes.0 in
    let count : length (take c.in-Ok.length c.read_piece.new.buf) ≡ c.in-Ok.length = rw length-take (omega (arith, c.read_piece.auto.buf, c.in-Ok.ensures.bound, c.min-room.ensures)) in
    let takes = rw c.in-Ok-None.field-0-is at c.in-Ok-None.ensures.takes in
    subst (λ n. Run c.take_piece.new.reader left (g.S.Source.left c.read_piece.new.source) taken (g.K.Sink.taken c.take_piece.new.sink) (c.args.self.now.count + n)) count
    (run-more c.args.self.now.reader c.take_piece.new.reader left (g.S.Source.left c.args.source.now) (g.S.Source.left c.read_piece.new.source) taken (g.K.Sink.taken c.args.sink.now) (g.K.Sink.taken c.take_piece.new.sink)
    c.args.self.now.count (take c.in-Ok.length c.read_piece.new.buf) r eaten takes)

pub returns-in-Ok-Some-clause-turns : goal.returns-in-Ok-Some-clause-turns
returns-in-Ok-Some-clause-turns g c = λ left taken r j.
    let eaten : Consumes (g.S.Source.left c.args.source.now) (g.S.Source.left c.read_piece.new.source) (take c.in-Ok.length c.read_piece.new.buf) = c.in-Ok.ensures.bytes.0 in
    let short : length (take c.in-Ok.length c.read_piece.new.buf) ≤ c.in-Ok.length = rw length-take (omega (arith)) in
    let takes = rw c.in-Ok-Some.field-0-is at c.in-Ok-Some.ensures.takes in
    run-stops c.args.self.now.reader c.take_piece.new.reader left (g.S.Source.left c.args.source.now) (g.S.Source.left c.read_piece.new.source) taken (g.K.Sink.taken c.args.sink.now) (g.K.Sink.taken c.take_piece.new.sink)
    c.args.self.now.count (take c.in-Ok.length c.read_piece.new.buf) c.in-Ok-Some.status r eaten takes (omega (arith, short, c.in-Ok.ensures.bound, c.min-room.ensures, c.requires.room))

pub returns-then-length-eq0-clause-read : goal.returns-then-length-eq0-clause-read
returns-then-length-eq0-clause-read g c = λ e. absurd (c.end.ensures.read cc)

pub returns-then-length-eq0-clause-write : goal.returns-then-length-eq0-clause-write
returns-then-length-eq0-clause-write g c = λ e. absurd (c.end.ensures.write cc)

pub returns-in-Ok-None-clause-ready : goal.returns-in-Ok-None-clause-ready
returns-in-Ok-None-clause-ready g c =
    let few = rw c.in-Ok-None.field-0-is at c.in-Ok-None.ensures.few in
    let early = rw c.in-Ok-None.field-0-is at c.in-Ok-None.ensures.early in
    let count : length (take c.in-Ok.length c.read_piece.new.buf) ≡ c.in-Ok.length = rw length-take (omega (arith, c.read_piece.auto.buf, c.in-Ok.ensures.bound, c.min-room.ensures)) in
    record {
      part = c.in-Ok-None.ensures.part;
      few = omega (arith, few, count, c.requires.ready.few);
      early = early;
      lines = omega (arith, c.in-Ok-None.ensures.lines, count, c.requires.ready.lines);
      within = omega (arith, c.in-Ok.ensures.bound, c.min-room.ensures, c.requires.room);
      empty = c.in-Ok-None.ensures.empty;
    }

pub returns-in-Ok-Some-clause-listed : goal.returns-in-Ok-Some-clause-listed
returns-in-Ok-Some-clause-listed g c = judged_replay c.in-Ok-Some.status (rw c.in-Ok-Some.field-0-is at c.in-Ok-Some.ensures.judged)

pub returns-in-Ok-Some-clause-read : goal.returns-in-Ok-Some-clause-read
returns-in-Ok-Some-clause-read g c = λ e.
    let same : c.in-Ok-Some.status ≡ statuses.ReadFault = cc in absurd (judged_read c.in-Ok-Some.status (rw c.in-Ok-Some.field-0-is at c.in-Ok-Some.ensures.judged) same)

pub returns-in-Ok-Some-clause-write : goal.returns-in-Ok-Some-clause-write
returns-in-Ok-Some-clause-write g c = λ e.
    let same : c.in-Ok-Some.status ≡ statuses.WriteFault = cc in absurd (judged_write c.in-Ok-Some.status (rw c.in-Ok-Some.field-0-is at c.in-Ok-Some.ensures.judged) same)

pub returns-in-Err-clause-front : goal.returns-in-Err-clause-front
returns-in-Err-clause-front g c = λ left taken r. run-front c.args.self.now.reader left (g.S.Source.left c.args.source.now) (g.S.Source.left c.read_piece.new.source) taken (g.K.Sink.taken c.args.sink.now)
    c.args.self.now.count c.read_piece.ensures.taken.0 r c.read_piece.ensures.taken.2 c.requires.ready.within

pub returns-then-length-eq0-clause-front : goal.returns-then-length-eq0-clause-front
returns-then-length-eq0-clause-front g c = λ left taken r. run-front c.args.self.now.reader left (g.S.Source.left c.args.source.now) (g.S.Source.left c.read_piece.new.source) taken (g.K.Sink.taken c.args.sink.now)
    c.args.self.now.count c.read_piece.ensures.taken.0 r c.read_piece.ensures.taken.2 c.requires.ready.within

pub returns-in-Ok-None-clause-front : goal.returns-in-Ok-None-clause-front
returns-in-Ok-None-clause-front g c = λ left taken r.
    let short : length (take c.in-Ok.length c.read_piece.new.buf) ≤ c.in-Ok.length = rw length-take (omega (arith)) in
    piece-front c.args.self.now.reader left (g.S.Source.left c.args.source.now) (g.S.Source.left c.read_piece.new.source) taken (g.K.Sink.taken c.args.sink.now) (g.K.Sink.taken c.take_piece.new.sink)
    c.args.self.now.count (take c.in-Ok.length c.read_piece.new.buf) r c.in-Ok.ensures.bytes.0 c.take_piece.ensures.front (omega (arith, short, c.in-Ok.ensures.bound, c.min-room.ensures, c.requires.room))

pub returns-in-Ok-Some-clause-front : goal.returns-in-Ok-Some-clause-front
returns-in-Ok-Some-clause-front g c = λ left taken r.
    let short : length (take c.in-Ok.length c.read_piece.new.buf) ≤ c.in-Ok.length = rw length-take (omega (arith)) in
    piece-front c.args.self.now.reader left (g.S.Source.left c.args.source.now) (g.S.Source.left c.read_piece.new.source) taken (g.K.Sink.taken c.args.sink.now) (g.K.Sink.taken c.take_piece.new.sink)
    c.args.self.now.count (take c.in-Ok.length c.read_piece.new.buf) r c.in-Ok.ensures.bytes.0 c.take_piece.ensures.front (omega (arith, short, c.in-Ok.ensures.bound, c.min-room.ensures, c.requires.room))

pub returns-in-Err-Memory-clause-front : goal.returns-in-Err-Memory-clause-front
returns-in-Err-Memory-clause-front g c = λ left taken r.
    let short : length (take c.in-Ok.length c.read_piece.new.buf) ≤ c.in-Ok.length = rw length-take (omega (arith)) in
    piece-front c.args.self.now.reader left (g.S.Source.left c.args.source.now) (g.S.Source.left c.read_piece.new.source) taken (g.K.Sink.taken c.args.sink.now) (g.K.Sink.taken c.take_piece.new.sink)
    c.args.self.now.count (take c.in-Ok.length c.read_piece.new.buf) r c.in-Ok.ensures.bytes.0 c.take_piece.ensures.front (omega (arith, short, c.in-Ok.ensures.bound, c.min-room.ensures, c.requires.room))

pub returns-in-Err-Write-clause-front : goal.returns-in-Err-Write-clause-front
returns-in-Err-Write-clause-front g c = λ left taken r.
    let short : length (take c.in-Ok.length c.read_piece.new.buf) ≤ c.in-Ok.length = rw length-take (omega (arith)) in
    piece-front c.args.self.now.reader left (g.S.Source.left c.args.source.now) (g.S.Source.left c.read_piece.new.source) taken (g.K.Sink.taken c.args.sink.now) (g.K.Sink.taken c.take_piece.new.sink)
    c.args.self.now.count (take c.in-Ok.length c.read_piece.new.buf) r c.in-Ok.ensures.bytes.0 c.take_piece.ensures.front (omega (arith, short, c.in-Ok.ensures.bound, c.min-room.ensures, c.requires.room))
