-- why `elements::ElementsIterator::next` answers as its contract says
use Rattle.std.proofs.Common.{List, sym, ap, ◌∙◌, length, rules}
use Rattle.ber_grammar.specs.Element.{Element}
use Rattle.ber_grammar.specs.Place.{placed}
use Rattle.ber_grammar.proofs.PartsLaws.{row_of-none, row_of-more, row_of-goes_on}
use Rattle.ber_view.proofs.SpotLaws.{placed-more}
use Rattle.ber_view.proofs.elements.ElementsIterator.next.Goals as goal

pub returns-then-is_empty-clause-steps : goal.returns-then-is_empty-clause-steps
returns-then-is_empty-clause-steps c =
    let none = sym c.self.view_is ∙ ap (λ (es : List Element). placed c.self.inside.rest.ref_ptr es) (row_of-none c.self.inside.rest.now (cc)) in
    (none, none)

pub invariant_of-self : goal.invariant_of-self
invariant_of-self c = (row_of-more _ _ _ c.self.invariant c.in-Ok.ensures.exact).1

pub unreachable-requires : goal.unreachable-requires
unreachable-requires c = row_of-goes_on _ _ c.self.invariant c.in-Err.ensures.exact (cc)

pub returns-clause-steps : goal.returns-clause-steps
returns-clause-steps c =
    sym c.self.view_is ∙ placed-more c.self.inside.rest c.in-Ok.after c.in-Ok.element (row_of-more _ _ _ c.self.invariant c.in-Ok.ensures.exact).0 c.in-Ok.ensures.places.0 c.in-Ok.ensures.places.1

pub returns-clause-goes : goal.returns-clause-goes
returns-clause-goes c =
    let step = sym c.self.view_is ∙ placed-more c.self.inside.rest c.in-Ok.after c.in-Ok.element (row_of-more _ _ _ c.self.invariant c.in-Ok.ensures.exact).0 c.in-Ok.ensures.places.0 c.in-Ok.ensures.places.1 in
    let shorter = ap length step in
    search rules
