-- What is given back is a slice of the input.
use Rattle.std.proofs.Common.{◌≡◌, ℕ, ◌+◌, List, length, Result, Ok, Err, subst, arith}
use Rattle.std.specs.Prelude.{IfOk}
use Rattle.std.specs.Borrow.{Bor}
use Rattle.ber_grammar.specs.declared.fault.BerFault.{BerFault}
use Rattle.ber_grammar.specs.Element.{Element, Begins}
use Rattle.ber_grammar.specs.Reader.{Gives}
use Rattle.ber_grammar.specs.Reading.{first_at}
use Rattle.ber_grammar.specs.Place.{IsEndOf, IsSliceAt}
use Rattle.ber_grammar.proofs.ElementLaws.{FirstTells, first_tells, Begins-places, Begins-length}
use Rattle.ber_view.specs.declared.element.Tlv.{Tlv}
use Rattle.ber_view.specs.View.{element}

-- the content and the rest
pub first_slices : (input : Bor (List ℕ)) (r : Result (Tlv × Bor (List ℕ)) BerFault) → Gives (λ x. (element x.0, x.1.now)) r (first_at input.now) → IfOk r (λ x. IsEndOf x.1 input)
    → IfOk r (λ x. (x.0.content.ref_ptr.0 ≡ input.ref_ptr.0) × (x.0.content.ref_ptr.1 ≡ input.ref_ptr.1 + x.0.head))
    → IfOk r (λ x. IsSliceAt input x.0.head x.0.content × IsSliceAt input (x.0.head + length x.0.content.now) x.1)
first_slices input (Ok x) g end place =
    let b : Begins input.now (element x.0) x.1.now = subst (λ (r : Result (Element × List ℕ) BerFault). FirstTells input.now r) g (first_tells input.now) in
    let at = Begins-places input.now (element x.0) x.1.now b in
    let len = Begins-length input.now (element x.0) x.1.now b in
    ((place.0, place.1, at.0), (end.0, omega (arith, end.1, len), at.1))
first_slices input (Err f) g end place = tt
