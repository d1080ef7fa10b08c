-- why `octets::is_clear` answers as its contract says
use Rattle.std.proofs.Common.{arith}
use Rattle.run_record.proofs.OctetLaws.{bounded-is, unbounded-is}
use Rattle.run_record.proofs.octets.is_clear.Goals as goal

pub returns-then-is_bounded : goal.returns-then-is_bounded
returns-then-is_bounded c = bounded-is c.args.line.now c.has_fault.result (omega arith) c.if-is_bounded.true c.has_fault.ensures

pub returns-else-is_bounded : goal.returns-else-is_bounded
returns-else-is_bounded c = unbounded-is c.args.line.now (omega arith) c.if-is_bounded.false
