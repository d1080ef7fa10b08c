-- what the loops of `element::big_endian_of` keep
use Rattle.std.proofs.Common.{◌≡◌, ◌<◌, ◌^◌, take}
use Rattle.ber_grammar.specs.Octets.{big_endian}
use Rattle.ber_view.proofs.element.big_endian_of.Given as goal

abbrev pub invariant-loop-b : goal.invariant-loop-b
invariant-loop-b l = (l.n ≡ big_endian (take l.b-index l.bytes)) × (l.n < 256 ^ l.b-index)
