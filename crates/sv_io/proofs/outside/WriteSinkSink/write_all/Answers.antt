-- why `outside::WriteSinkSink::write_all` answers as its contract says
use Rattle.std.proofs.Common.{refl}
use Rattle.sv_io.proofs.Front.{written_more}
use Rattle.sv_io.proofs.outside.WriteSinkSink.write_all.Goals as goal

pub loop-rest-preserved : goal.loop-rest-preserved
loop-rest-preserved g c = record {
  same = refl;
  faults = c.loop-rest.invariant.faults;
  front = written_more _ _ _ _ _ _ c.loop-rest.invariant.front c.in-Ok.ensures.bound c.in-Ok.ensures.bytes;
}
