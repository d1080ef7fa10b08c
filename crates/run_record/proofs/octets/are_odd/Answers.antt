-- why `octets::are_odd` answers as its contract says
use Rattle.std.proofs.Common.{◌+◌, length, ◌∙◌, arith}
use Rattle.run_record.proofs.OctetLaws.{both-odd, all-odd}
use Rattle.run_record.proofs.octets.are_odd.Goals as goal

pub loop-at-preserved : goal.loop-at-preserved
loop-at-preserved c = (omega arith, both-odd c.args.text.now 0 c.loop-at.at (c.loop-at.at + 16) c.loop-at.odd c.are_odd_at-odd.result (omega arith) (omega arith) c.loop-at.invariant.1 c.are_odd_at-odd.ensures)

pub returns : goal.returns
returns c = both-odd c.args.text.now 0 c.loop-at.at (length c.args.text.now) c.loop-at.odd c.are_odd_from.result (omega arith) (omega arith) c.loop-at.invariant.1 c.are_odd_from.ensures ∙ all-odd c.args.text.now
