-- why `measure::bits_len` answers as its contract says
use Rattle.std.proofs.Common.{arith}
use Rattle.sv_base.proofs.LengthLaws.{length-packed}
use Rattle.data_lengths.proofs.measure.bits_len.Goals as goal

pub returns : goal.returns
returns c = omega (arith, length-packed 0 c.args.bits.now)
