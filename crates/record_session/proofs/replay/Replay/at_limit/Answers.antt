-- why `replay::Replay::at_limit` answers as its contract says
use Rattle.std.proofs.Common.{◌≡◌, ◌<◌, [], length, take, subst, arith, rules, length-take}
use Rattle.std.specs.Io.KnownBytes.{Consumes}
use Rattle.record_session.proofs.Judging.{run-ends, run-passes}
use Rattle.record_session.proofs.Fronts.{run-front}
use Rattle.record_session.proofs.replay.Replay.at_limit.Goals as goal

pub returns-in-Ok-eq0-clause-told : goal.returns-in-Ok-eq0-clause-told
returns-in-Ok-eq0-clause-told g c = λ left taken told r j.
    let none : Consumes (g.S.Source.left c.args.source.now) (g.S.Source.left c.read_piece.new.source) [] = subst (λ n. Consumes (g.S.Source.left c.args.source.now) (g.S.Source.left c.read_piece.new.source) (take n c.read_piece.new.buf)) c.in-Ok-eq0.field-0-test c.in-Ok-eq0.ensures.bytes.0 in
    run-ends c.args.self.now.reader left (g.S.Source.left c.args.source.now) (g.S.Source.left c.read_piece.new.source) taken told c.args.self.now.count _ r none
    (c.in-Ok-eq0.ensures.bytes.1 c.in-Ok-eq0.field-0-test) c.requires.ready.part c.requires.ready.within (c.end.ensures.status j)

pub returns-in-Ok-clause-told : goal.returns-in-Ok-clause-told
returns-in-Ok-clause-told g c = λ left taken told r j.
    let same : length c.read_piece.new.buf ≡ 1 = search rules in
    let some : 0 < length (take c.in-Ok.field-0 c.read_piece.new.buf) = rw length-take (omega (arith, same, c.in-Ok.field-0-test.1)) in
    run-passes c.args.self.now.reader left (g.S.Source.left c.args.source.now) (g.S.Source.left c.read_piece.new.source) taken told c.args.self.now.count (take c.in-Ok.field-0 c.read_piece.new.buf) _ r c.in-Ok.ensures.bytes.0
    some c.requires.ready.part (omega (arith, c.requires.full, c.requires.ready.within)) (c.end-in-Ok.ensures.status j)

pub returns-in-Ok-eq0-clause-front : goal.returns-in-Ok-eq0-clause-front
returns-in-Ok-eq0-clause-front g c = λ told left taken r. run-front c.args.self.now.reader left (g.S.Source.left c.args.source.now) (g.S.Source.left c.read_piece.new.source) taken told
    c.args.self.now.count c.read_piece.ensures.taken.0 r c.read_piece.ensures.taken.2 c.requires.ready.within

pub returns-in-Ok-clause-front : goal.returns-in-Ok-clause-front
returns-in-Ok-clause-front g c = λ told left taken r. run-front c.args.self.now.reader left (g.S.Source.left c.args.source.now) (g.S.Source.left c.read_piece.new.source) taken told
    c.args.self.now.count c.read_piece.ensures.taken.0 r c.read_piece.ensures.taken.2 c.requires.ready.within

pub returns-in-Err-clause-front : goal.returns-in-Err-clause-front
returns-in-Err-clause-front g c = λ told left taken r. run-front c.args.self.now.reader left (g.S.Source.left c.args.source.now) (g.S.Source.left c.read_piece.new.source) taken told
    c.args.self.now.count c.read_piece.ensures.taken.0 r c.read_piece.ensures.taken.2 c.requires.ready.within
