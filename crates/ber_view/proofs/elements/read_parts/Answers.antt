-- why `elements::read_parts` answers as its contract says
use Rattle.std.proofs.Common.{List, sym, ap, ◌∙◌, Ok}
use Rattle.std.proofs.lemmas.Result.{err_from_is_err_and}
use Rattle.ber_grammar.specs.Element.{Element}
use Rattle.ber_grammar.specs.Place.{placed}
use Rattle.ber_grammar.specs.Rows.{row_of}
use Rattle.ber_grammar.proofs.PlaceLaws.{elements-placed}
use Rattle.ber_grammar.proofs.PartsLaws.{WithFront-more, WithFront-stop, WithFront-all, IsRow-row_of}
use Rattle.ber_view.proofs.elements.read_parts.Goals as goal

pub loop-rest-preserved : goal.loop-rest-preserved
loop-rest-preserved c = WithFront-more _ _ _ _ c.loop-rest.invariant c.in_ok-after.ensures.exact

pub returns-in_err-after-clause-exact : goal.returns-in_err-after-clause-exact
returns-in_err-after-clause-exact c =
    let p = err_from_is_err_and c.from_residual.result c.from_residual.ensures.1 in
    rw (p.1, p.2) (WithFront-stop _ _ _ c.loop-rest.invariant c.in_err-after.ensures.exact (cc))

pub invariant_of-result : goal.invariant_of-result
invariant_of-result c = IsRow-row_of c.args.content.now (WithFront-all c.args.content.now c.loop-rest.rest.now c.loop-rest.invariant (cc))

pub returns-clause-exact : goal.returns-clause-exact
returns-clause-exact c = WithFront-all c.args.content.now c.loop-rest.rest.now c.loop-rest.invariant (cc) ∙ ap (λ (es : List Element). Ok es) (sym (elements-placed c.args.content.ref_ptr (row_of c.args.content.now)))

pub returns-clause-places : goal.returns-clause-places
returns-clause-places c = ap (λ (es : List Element). placed c.args.content.ref_ptr es) (sym (elements-placed c.args.content.ref_ptr (row_of c.args.content.now)))
