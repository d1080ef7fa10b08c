-- why `transport::TransportIn::feed` answers as its contract says
use Rattle.std.proofs.Common.{arith}
use Rattle.std.proofs.lemmas.Result.{MatchResult-weaker}
use Rattle.tpkt_cotp.proofs.StreamLaws.{goes_for, refuses, held_fits}
use Rattle.tpkt_cotp.proofs.transport.TransportIn.feed.Goals as goal

pub returns-in-Err-clause-stands : goal.returns-in-Err-clause-stands
returns-in-Err-clause-stands c dialled octets so_far stood =
    refuses c.in-Err.fault dialled _ _ _ octets so_far _ _ (λ i. omega (arith, c.type_inv.piece i)) stood.1 (c.in-Err.ensures (held_fits _ _ _ _ _ stood.1) stood.1.partial)

pub returns-in_default-done-clause-stands : goal.returns-in_default-done-clause-stands
returns-in_default-done-clause-stands c dialled octets so_far stood =
    MatchResult-weaker c.take_piece-done.result (c.take_piece-done.ensures (held_fits _ _ _ _ _ stood.1) stood.1.partial)
    (λ x h. goes_for _ dialled _ _ _ octets so_far _ _ stood.0 (λ i. omega (arith, c.type_inv.piece i)) stood.1 h)
    (λ f h. refuses f dialled _ _ _ octets so_far _ _ (λ i. omega (arith, c.type_inv.piece i)) stood.1 h)
