-- why `writing::tsdu` answers as its contract says
use Rattle.std.proofs.Common.{List, ℕ, ◌∷◌, ◌++◌, ap, ◌∙◌, arith}
use Rattle.tpkt_cotp.specs.declared.codes.TheConstants.{DT}
use Rattle.tpkt_cotp.specs.Packet.{packet}
use Rattle.tpkt_cotp.proofs.WrittenLaws.{begun, written_more, written_last}
use Rattle.tpkt_cotp.proofs.writing.tsdu.Goals as goal

pub loop-rest-init : goal.loop-rest-init
loop-rest-init c = begun _ _ _ _ c.new-out.ensures.items c.room_of-room.ensures.value

pub loop-rest-preserved : goal.loop-rest-preserved
loop-rest-preserved c =
    rw c.split_at.ensures.back (written_more c.room_of-room.result _ _ c.loop-rest.rest.now _ (omega arith) (omega arith) c.loop-rest.invariant
    (c.in_ok-put_packet.ensures ∙ ap (λ (x : List ℕ). c.loop-rest.out.items ++ packet (2 ∷ DT ∷ 0 ∷ x)) c.split_at.ensures.front))

pub returns : goal.returns
returns c = c.from_vec.ensures ∙ written_last c.room_of-room.result _ _ c.loop-rest.rest.now _ (omega arith) (omega arith) c.loop-rest.invariant c.in_ok-put_packet-2.ensures
