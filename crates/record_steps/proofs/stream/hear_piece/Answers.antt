-- why `stream::hear_piece` answers as its contract says
use Rattle.std.proofs.Common.{ℕ, List, sym, ap, subst, ◌∙◌, arith}
use Rattle.std.specs.Prelude.{Option, Some}
use Rattle.text_words.specs.Values.{option_items}
use Rattle.record_steps.specs.Forms.{Stands, fed_form}
use Rattle.record_steps.specs.Resolved.{piece_as}
use Rattle.record_steps.specs.Told.{heard}
use Rattle.record_steps.proofs.FedLaws.{piece-few}
use Rattle.record_steps.proofs.stream.hear_piece.Goals as goal

pub returns-in_default-clause-form : goal.returns-in_default-clause-form
returns-in_default-clause-form c before events was =
    subst (λ (o : Option (List ℕ)). Stands c.with_stack.result (fed_form c.args.wired before o)) (sym (ap option_items c.in_default.is) ∙ c.in_ok-octets.ensures) (c.with_stack.ensures.form before events was)

pub returns-clause-told : goal.returns-clause-told
returns-clause-told c before events slot was =
    let read = ap (λ (o : List ℕ). Some o) c.deref.ensures.value ∙ (sym (ap option_items c.in-Some.is) ∙ c.in_ok-octets.ensures) in
    ap heard (c.in_ok-form.ensures.heard before events was) ∙ ap (piece_as c.args.model.now c.args.wired c.args.a before) read

pub returns-clause-form : goal.returns-clause-form
returns-clause-form c before events was =
    let read = ap (λ (o : List ℕ). Some o) c.deref.ensures.value ∙ (sym (ap option_items c.in-Some.is) ∙ c.in_ok-octets.ensures) in
    subst (λ (o : Option (List ℕ)). Stands c.in_ok-form.form (fed_form c.args.wired before o)) read (c.in_ok-form.ensures.form before events was)

pub returns-clause-few : goal.returns-clause-few
returns-clause-few c before events was =
    let read = ap (λ (o : List ℕ). Some o) c.deref.ensures.value ∙ (sym (ap option_items c.in-Some.is) ∙ c.in_ok-octets.ensures) in
    omega (arith, c.in_ok-form.ensures.few before events was, piece-few c.args.hex.now c.deref.result.now read)
