-- what the loops of `writing::tsdu` keep, and why they end
use Rattle.std.proofs.Common.{◌≡◌, ◌++◌, length}
use Rattle.std.specs.List.{flat_map}
use Rattle.tpkt_cotp.specs.Packet.{packet}
use Rattle.tpkt_cotp.specs.Written.{segments_of, tsdu_of}
use Rattle.tpkt_cotp.proofs.writing.tsdu.Given as goal

abbrev pub invariant-loop-rest : goal.invariant-loop-rest
invariant-loop-rest l = tsdu_of l.fn.exponent l.fn.octets ≡ l.out.items ++ flat_map packet (segments_of l.room l.rest)

abbrev pub decreases-loop-rest : goal.decreases-loop-rest
decreases-loop-rest l = length l.rest
