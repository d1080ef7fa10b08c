-- why `measure::without_zeros` ends
use Rattle.std.proofs.Common.{length}
use Rattle.data_lengths.proofs.measure.+without_zeros.Given as goal

abbrev pub decreases-without_zeros : goal.decreases-without_zeros
decreases-without_zeros l = length l.octets.now
