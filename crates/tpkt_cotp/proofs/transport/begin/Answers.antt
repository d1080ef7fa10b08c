-- why `transport::begin` answers as its contract says
use Rattle.std.proofs.Common.{◌≡◌, Ok, Some, refl, arith}
use Rattle.std.proofs.lemmas.Result.{err_from_is_err_and}
use Rattle.tpkt_cotp.specs.Packet.{packet_at}
use Rattle.tpkt_cotp.proofs.StepLaws.{begin_none, begin_some, begin_bad, begin_fails}
use Rattle.tpkt_cotp.proofs.transport.begin.Goals as goal

pub returns-in_err-tpdu : goal.returns-in_err-tpdu
returns-in_err-tpdu c =
    let p = err_from_is_err_and c.from_residual.result c.from_residual.ensures.1 in
    rw (p.1, p.2) (begin_bad _ _ _ _ c.requires (λ i. omega (arith, c.type_inv.piece i)) c.in_err-tpdu.ensures)

pub returns-in_default : goal.returns-in_default
returns-in_default c =
    begin_none _ _ _ _ _ c.requires (λ i. omega (arith, c.type_inv.piece i)) (rw c.in_default.is at c.in_ok-tpdu.ensures) c.in_ok-append.ensures refl

pub returns-in_err-taken : goal.returns-in_err-taken
returns-in_err-taken c =
    let p = err_from_is_err_and c.from_residual-in_err-taken.result c.from_residual-in_err-taken.ensures.1 in
    let one : packet_at c.args.piece.now ≡ Ok (Some (c.in-Some.tpdu.now, c.in-Some.rest.now)) = rw c.in-Some.is at c.in_ok-tpdu.ensures in
    rw (p.1, p.2) (begin_fails _ _ _ _ _ _ c.requires (λ i. omega (arith, c.type_inv.piece i)) one c.in_err-taken.ensures)

pub returns : goal.returns
returns c =
    let one : packet_at c.args.piece.now ≡ Ok (Some (c.in-Some.tpdu.now, c.in-Some.rest.now)) = rw c.in-Some.is at c.in_ok-tpdu.ensures in
    begin_some _ _ _ _ _ _ _ c.in_ok-taken.taken c.requires (λ i. omega (arith, c.type_inv.piece i)) one c.in_ok-taken.ensures.0 c.in_ok-taken.ensures.1 refl
