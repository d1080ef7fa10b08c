-- what the loops of `content::lack_of` keep
use Rattle.std.proofs.Common.{◌≡◌, ◌+◌, ◌^◌, take}
use Rattle.ber_grammar.specs.Octets.{big_endian}
use Rattle.ber_view.proofs.content.lack_of.Given as goal

abbrev pub invariant-loop-b : goal.invariant-loop-b
invariant-loop-b l = l.n + 1 + big_endian (take l.b-index l.bytes) ≡ 256 ^ l.b-index
