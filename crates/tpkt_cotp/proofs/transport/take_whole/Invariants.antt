-- what the loops of `transport::take_whole` keep, and why they end
use Rattle.std.proofs.Common.{◌≡◌, ◌⊎◌, [], ◌++◌, length}
use Rattle.tpkt_cotp.specs.Packet.{IsPartial}
use Rattle.tpkt_cotp.specs.Stream.{Took}
use Rattle.tpkt_cotp.proofs.transport.take_whole.Given as goal

abbrev pub invariant-loop-rest : goal.invariant-loop-rest
invariant-loop-rest l = record {
  took : Took l.fn.state l.fn.piece l.fn.out l.state (l.held ++ l.rest) l.out;
  partial : IsPartial l.held;
  one : (l.held ≡ []) ⊎ (l.rest ≡ []);
}

abbrev pub decreases-loop-rest : goal.decreases-loop-rest
decreases-loop-rest l = length l.rest
