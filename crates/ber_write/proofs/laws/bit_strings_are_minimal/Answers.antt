-- why `laws::bit_strings_are_minimal` answers as its contract says
use Rattle.ber_write.proofs.BitLaws.{bits_spelled, bits_as_long, bits_only}
use Rattle.ber_write.proofs.laws.bit_strings_are_minimal.Goals as goal

pub returns : goal.returns
returns c = record { spelled = bits_spelled; as_long = bits_as_long; only = bits_only }
