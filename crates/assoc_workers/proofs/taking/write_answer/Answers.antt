-- why `taking::write_answer` answers as its contract says
use Rattle.std.proofs.Common.{arith}
use Rattle.std.proofs.KnownBytes.{Appends-nil}
use Rattle.assoc_workers.proofs.taking.write_answer.Goals as goal

pub returns-in_default-octets_of-clause-written : goal.returns-in_default-octets_of-clause-written
returns-in_default-octets_of-clause-written g c = (c.in-Taken.output, c.in-Taken.is, 0, omega arith, Appends-nil _)
