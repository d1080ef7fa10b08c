-- why `made::generate` answers as its contract says
use Rattle.std.proofs.Common.{arith}
use Rattle.made_records.specs.Texts.{made_record}
use Rattle.replay_run.proofs.Writing.{written_more, written_whole}
use Rattle.replay_run.proofs.made.generate.Goals as goal

pub loop-record-preserved : goal.loop-record-preserved
loop-record-preserved g c = record {
  written = written_more (g.K.Sink.taken c.args.sink.now) (g.K.Sink.taken c.loop-record.sink) (g.K.Sink.taken c.write_all.new.self) (made_record c.args.asked.seed c.args.asked.count)
      c.loop-record.record c.next_piece.new.piece.items c.next_piece.new.self c.loop-record.invariant.written c.in-Ok.ensures.piece (rw c.deref.ensures.value at c.in-Ok-write_all.ensures.ok);
  later = omega (arith, c.loop-record.invariant.later, c.write_all.ensures.cause.later);
}

pub returns-clause-told : goal.returns-clause-told
returns-clause-told g c = λ ok. written_whole (g.K.Sink.taken c.args.sink.now) (g.K.Sink.taken c.loop-record.sink) (made_record c.args.asked.seed c.args.asked.count) c.loop-record.record c.loop-record.invariant.written (c.is_empty.ensures.0 c.loop-record-test.false)
