-- why `octets::are_odd_from` answers as its contract says
use Rattle.std.proofs.Common.{◌+◌, refl, arith}
use Rattle.run_record.proofs.OctetLaws.{more-odd}
use Rattle.run_record.proofs.octets.are_odd_from.Goals as goal

pub loop-i-preserved : goal.loop-i-preserved
loop-i-preserved c = more-odd c.args.text.now c.args.at c.loop-i.i (c.loop-i.i + 1) c.loop-i.odd (omega arith) refl (omega arith) c.loop-i.invariant
