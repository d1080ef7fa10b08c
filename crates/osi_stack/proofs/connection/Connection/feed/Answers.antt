-- why `connection::Connection::feed` answers as its contract says
use Rattle.std.proofs.Common.{Option, sym, subst, arith}
use Rattle.std.proofs.lemmas.Result.{MatchResult-weaker}
use Rattle.osi_stack.specs.declared.connection.Link.{Link}
use Rattle.osi_stack.specs.declared.fault.StackFault.{StackFault}
use Rattle.osi_stack.specs.Standing.{IsAt}
use Rattle.osi_stack.proofs.StandingLaws.{goes_on, stops_at}
use Rattle.osi_stack.proofs.connection.Connection.feed.Goals as goal

pub returns-in-Err-clause-stands : goal.returns-in-Err-clause-stands
returns-in-Err-clause-stands c from octets so_far stood =
    let at = subst (λ (v : Link × Option StackFault). IsAt v from octets so_far) (sym c.self.view_is) stood in
    stops_at c.in-Err.fault from c.self.inside.link octets c.args.piece.now so_far _ _ (λ i. omega (arith, c.type_inv.piece i)) at.1 c.in-Err.ensures

pub returns-in_default-done-clause-stands : goal.returns-in_default-done-clause-stands
returns-in_default-done-clause-stands c from octets so_far stood =
    let at = subst (λ (v : Link × Option StackFault). IsAt v from octets so_far) (sym c.self.view_is) stood in
    MatchResult-weaker c.take_piece-done.result c.take_piece-done.ensures
    (λ x h. let g = goes_on from c.self.inside.link _ octets c.args.piece.now so_far _ _ (λ i. omega (arith, c.type_inv.piece i)) at.1 h in (g.0, g.1, (at.0, g.2)))
    (λ f h. stops_at f from c.self.inside.link octets c.args.piece.now so_far _ _ (λ i. omega (arith, c.type_inv.piece i)) at.1 h)
