-- what the loops of `content::number_of` keep
use Rattle.std.proofs.Common.{◌≡◌, ◌<◌, ◌^◌, take}
use Rattle.ber_grammar.specs.Octets.{big_endian}
use Rattle.mms_data.proofs.content.number_of.Given as goal

abbrev pub invariant-loop-octet : goal.invariant-loop-octet
invariant-loop-octet l = (l.n ≡ big_endian (take l.octet-index l.octets)) × (l.n < 256 ^ l.octet-index)
