-- why `octets::are_odd_at` answers as its contract says
use Rattle.std.proofs.Common.{◌+◌, arith}
use Rattle.run_record.proofs.OctetLaws.{more-odd}
use Rattle.run_record.proofs.octets.are_odd_at.Goals as goal

pub loop-k-preserved : goal.loop-k-preserved
loop-k-preserved g c = more-odd c.args.text.now c.args.at (c.args.at + c.loop-k.k) (c.args.at + (c.loop-k.k + 1)) c.loop-k.odd (omega arith) (omega arith) (omega arith) c.loop-k.invariant
