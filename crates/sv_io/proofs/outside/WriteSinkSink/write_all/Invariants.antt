-- what the loops of `outside::WriteSinkSink::write_all` keep, and why they end
use Rattle.std.proofs.Common.{◌≡◌, length}
use Rattle.sv_io.proofs.Front.{IsWritten}
use Rattle.sv_io.proofs.outside.WriteSinkSink.write_all.Given as goal

abbrev pub invariant-loop-rest : goal.invariant-loop-rest
invariant-loop-rest g l = record {
  same : l.piece ≡ l.fn.piece;
  faults : l.self.faults ≡ l.fn.self.faults;
  front : IsWritten (g.W.Write.contents l.fn.self.inner) (g.W.Write.contents l.self.inner) l.piece l.rest;
}

abbrev pub decreases-loop-rest : goal.decreases-loop-rest
decreases-loop-rest g l = length l.rest
