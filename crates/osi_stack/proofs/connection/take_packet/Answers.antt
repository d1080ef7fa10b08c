-- why `connection::take_packet` answers as its contract says
use Rattle.std.proofs.Common.{refl, arith}
use Rattle.std.proofs.lemmas.Result.{err_from_is_err_and}
use Rattle.tpkt_cotp.proofs.KeptLaws.{step_fits}
use Rattle.osi_stack.specs.Going.{stand}
use Rattle.osi_stack.proofs.ConnectionLaws.{went_taken, transport_halts, taken_halts}
use Rattle.osi_stack.proofs.connection.take_packet.Goals as goal

pub returns-in_err-taken-clause-goes : goal.returns-in_err-taken-clause-goes
returns-in_err-taken-clause-goes c =
    let p = err_from_is_err_and c.from_residual.result c.from_residual.ensures.1 in
    rw (p.1, p.2) (refl, refl, transport_halts _ (stand c.args.link.now) _ (c.in_err-taken.ensures.one c.requires.usable.ready))

pub take_tpkt-requires-clause-fits : goal.take_tpkt-requires-clause-fits
take_tpkt-requires-clause-fits c =
    step_fits c.args.link.now.transport _ c.args.piece.now _ c.in_ok-taken.taken (λ i. omega (arith, c.type_inv.piece i)) c.requires.usable.ready (c.in_ok-taken.ensures.one c.requires.usable.ready)

pub returns-in_err-take_tpkt-clause-goes : goal.returns-in_err-take_tpkt-clause-goes
returns-in_err-take_tpkt-clause-goes c =
    let p = err_from_is_err_and c.from_residual-in_err-take_tpkt.result c.from_residual-in_err-take_tpkt.ensures.1 in
    let h = taken_halts c.args.link.now _ _ c.args.piece.now _ c.in_ok-taken.taken _ _ _ (c.in_ok-taken.ensures.one c.requires.usable.ready).0 c.in_err-take_tpkt.ensures.0 in
    rw (p.1, p.2) (h.0, c.in_err-take_tpkt.ensures.1, h.1)

pub returns-clause-goes : goal.returns-clause-goes
returns-clause-goes c =
    went_taken c.args.link.now _ c.args.piece.now _ c.in_ok-taken.taken _ _ c.requires.usable c.requires.on (c.in_ok-taken.ensures.one c.requires.usable.ready) c.in_ok-take_tpkt.ensures
