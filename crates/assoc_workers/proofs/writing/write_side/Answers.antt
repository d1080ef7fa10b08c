-- why `writing::write_side` answers as its contract says
use Rattle.assoc_workers.proofs.WriteLaws.{writes_lost}
use Rattle.assoc_workers.proofs.writing.write_side.Goals as goal

pub returns-in-WriteFault-clause-writes : goal.returns-in-WriteFault-clause-writes
returns-in-WriteFault-clause-writes g c = writes_lost _ _ _ _ _ _ _ _ _ _ _ c.in-WriteFault.is c.take_all-end.ensures.takes c.lose.ensures
