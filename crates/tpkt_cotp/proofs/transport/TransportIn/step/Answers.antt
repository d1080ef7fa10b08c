-- why `transport::TransportIn::step` answers as its contract says
use Rattle.std.proofs.Common.{arith}
use Rattle.std.proofs.lemmas.Result.{MatchResult-weaker}
use Rattle.tpkt_cotp.specs.declared.transport.TransportIn.{TransportIn}
use Rattle.tpkt_cotp.proofs.StreamLaws.{held_fits}
use Rattle.tpkt_cotp.proofs.StepLaws.{ready, steps_on, step_refuses}
use Rattle.tpkt_cotp.proofs.transport.TransportIn.step.Goals as goal

pub returns-in-Err-clause-one : goal.returns-in-Err-clause-one
returns-in-Err-clause-one c is = c.in-Err.ensures is.fits is.partial

pub returns-in-Err-clause-stands : goal.returns-in-Err-clause-stands
returns-in-Err-clause-stands c dialled octets so_far stood some =
    step_refuses c.in-Err.why c.args.self.now dialled octets so_far c.args.piece.now (λ i. omega (arith, c.type_inv.piece i)) stood.1 (c.in-Err.ensures (held_fits _ _ _ _ _ stood.1) stood.1.partial) some

pub returns-in_default-done-clause-one : goal.returns-in_default-done-clause-one
returns-in_default-done-clause-one c is =
    let now : TransportIn = record { held = c.advance-done.new.held; state = c.advance-done.new.state; refused = c.args.self.now.refused } in
    MatchResult-weaker c.advance-done.result (c.advance-done.ensures is.fits is.partial)
    (λ x h. ready c.args.self.now now _ _ _ is.fine is.fits (λ i. omega (arith, c.type_inv.piece i)) h)
    (λ f h. h)

pub returns-in_default-done-clause-stands : goal.returns-in_default-done-clause-stands
returns-in_default-done-clause-stands c dialled octets so_far stood =
    MatchResult-weaker c.advance-done.result (c.advance-done.ensures (held_fits _ _ _ _ _ stood.1) stood.1.partial)
    (λ x h. steps_on c.args.self.now _ dialled octets so_far _ _ _ stood.0 (λ i. omega (arith, c.type_inv.piece i)) stood.1 h)
    (λ f h some. step_refuses f c.args.self.now dialled octets so_far c.args.piece.now (λ i. omega (arith, c.type_inv.piece i)) stood.1 h some)
