-- why `transport::take_piece` answers as its contract says
use Rattle.std.proofs.Common.{◌≡◌, [], ◌++◌, length, refl, sym, ap, ◌∙◌}
use Rattle.std.proofs.lemmas.Bool.{eqb-true}
use Rattle.std.proofs.lemmas.List.{nil_from_length}
use Rattle.std.proofs.lemmas.Result.{err_from_is_err_and, MatchResult-weaker}
use Rattle.std.specs.Option.{option_to_list}
use Rattle.tpkt_cotp.specs.Stream.{Took, gift}
use Rattle.tpkt_cotp.proofs.StreamLaws.{Took-none, Took-then}
use Rattle.tpkt_cotp.proofs.StepLaws.{no_memory, took_step, took_fails, stops_then}
use Rattle.tpkt_cotp.proofs.transport.take_piece.Goals as goal

pub returns-in_err-taken : goal.returns-in_err-taken
returns-in_err-taken c fits was =
    let p = err_from_is_err_and c.from_residual.result c.from_residual.ensures.1 in
    rw (p.1, p.2) (took_fails _ _ _ _ _ _ _ _ (Took-none _ _ _) (c.in_err-taken.ensures fits was) refl)

pub returns-in_err-add : goal.returns-in_err-add
returns-in_err-add c fits was =
    let p = err_from_is_err_and c.from_residual-in_err-add.result c.from_residual-in_err-add.ensures.1 in
    let same : c.add.new.out ≡ c.args.out.now = rw c.in_err-add.was at c.add.ensures in
    rw (p.1, p.2) (took_fails _ _ _ _ _ _ _ _ (Took-none _ _ _) (no_memory _ _ _ refl) same)

pub returns : goal.returns
returns c fits was =
    let given : c.add.new.out ≡ c.args.out.now ++ option_to_list (gift c.in_ok-taken.taken) = rw c.in_ok-add.was at c.add.ensures in
    let took = took_step c.args.state.now c.args.state.now c.go_on.new.state _ c.args.held.now c.args.piece.now _ _ _ _ _ c.in_ok-taken.taken (Took-none _ _ _) (c.in_ok-taken.ensures fits was) given in
    let empty : length c.as_slice-2.result.now ≡ 0 = eqb-true _ _ (cc) in
    let none : c.go_on.new.held ≡ [] = nil_from_length _ (ap length (sym c.as_slice-2.ensures) ∙ empty) in
    let there : Took c.args.state.now (c.args.held.now ++ c.args.piece.now) c.args.out.now c.go_on.new.state c.in_ok-taken.rest.now c.add.new.out = rw none at took in
    MatchResult-weaker c.take_whole-2.result c.take_whole-2.ensures (λ x h. (Took-then _ _ _ _ _ _ _ _ _ there h.0, h.1)) (λ f h. stops_then _ _ _ _ _ _ _ _ there h)
