-- why `transport::go_on` answers as its contract says
use Rattle.std.proofs.Common.{◌≡◌, Ok, Some, sym, ap, ◌∙◌, arith}
use Rattle.std.proofs.lemmas.Result.{err_from_is_err_and}
use Rattle.tpkt_cotp.specs.Packet.{packet_at}
use Rattle.tpkt_cotp.proofs.StepLaws.{held_none, held_some, held_bad, held_fails}
use Rattle.tpkt_cotp.proofs.transport.go_on.Goals as goal

pub returns-in_err-tpdu : goal.returns-in_err-tpdu
returns-in_err-tpdu c fits was =
    let p = err_from_is_err_and c.from_residual-in_err-tpdu.result c.from_residual-in_err-tpdu.ensures.1 in
    rw (p.1, p.2) (held_bad _ _ _ _ _ _ fits (λ i. omega (arith, c.type_inv.piece i)) c.in_ok-rest.ensures (ap packet_at (sym c.as_slice.ensures) ∙ c.in_err-tpdu.ensures))

pub returns-in_default : goal.returns-in_default
returns-in_default c fits was =
    held_none _ _ _ _ _ fits (λ i. omega (arith, c.type_inv.piece i)) was c.in_ok-rest.ensures (ap packet_at (sym c.as_slice.ensures) ∙ rw c.in_default.is at c.in_ok-tpdu.ensures)

pub returns-in_err-taken : goal.returns-in_err-taken
returns-in_err-taken c fits was =
    let p = err_from_is_err_and c.from_residual-in_err-taken.result c.from_residual-in_err-taken.ensures.1 in
    let one : packet_at c.as_slice.result.now ≡ Ok (Some (c.in-Some.tpdu.now, c.in-Some.field-0-1.now)) = rw c.in-Some.is at c.in_ok-tpdu.ensures in
    rw (p.1, p.2) (held_fails _ _ _ _ _ _ _ _ fits (λ i. omega (arith, c.type_inv.piece i)) c.in_ok-rest.ensures (ap packet_at (sym c.as_slice.ensures) ∙ one) c.in_err-taken.ensures)

pub returns : goal.returns
returns c fits was =
    let one : packet_at c.as_slice.result.now ≡ Ok (Some (c.in-Some.tpdu.now, c.in-Some.field-0-1.now)) = rw c.in-Some.is at c.in_ok-tpdu.ensures in
    held_some _ _ _ _ _ _ _ _ _ c.in_ok-taken.taken fits (λ i. omega (arith, c.type_inv.piece i)) was c.in_ok-rest.ensures (ap packet_at (sym c.as_slice.ensures) ∙ one) c.in_ok-taken.ensures.0 c.in_ok-taken.ensures.1 c.clear.ensures
