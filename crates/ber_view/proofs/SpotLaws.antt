-- One element more, with its place.
use Rattle.std.proofs.Common.{◌≡◌, ℕ, ◌+◌, List, ◌∷◌, length, refl, ap, ◌∙◌}
use Rattle.std.specs.Borrow.{Bor}
use Rattle.ber_grammar.specs.Element.{Element}
use Rattle.ber_grammar.specs.Rows.{row_of}
use Rattle.ber_grammar.specs.Place.{IsSliceAt, Spot, placed}
use Rattle.ber_view.specs.declared.element.Tlv.{Tlv}
use Rattle.ber_view.specs.View.{element, spot}

same_spot : (e : Element) (b c p q : ℕ) (from to : ℕ × ℕ) (es : List Element) → c ≡ b → q ≡ p → to ≡ from → (let s : Spot = record { element = e; block = b; place = p } in s) ∷ placed from es ≡ (let s : Spot = record { element = e; block = c; place = q } in s) ∷ placed to es
same_spot e b c p q from to es h i j = rw (h, i, j) refl

same_pair : (x : ℕ × ℕ) (a b : ℕ) → x.0 ≡ a → x.1 ≡ b → x ≡ (a, b)
same_pair x a b p q = ap (λ (y : ℕ). (y, x.1)) p ∙ ap (λ (y : ℕ). (a, y)) q

pub placed-more : (input after : Bor (List ℕ)) (x : Tlv) → row_of input.now ≡ element x ∷ row_of after.now → IsSliceAt input x.head x.content → IsSliceAt input (x.head + length x.content.now) after
    → placed input.ref_ptr (row_of input.now) ≡ spot x ∷ placed after.ref_ptr (row_of after.now)
placed-more input after x row at rest =
    ap (λ (es : List Element). placed input.ref_ptr es) row
    ∙ same_spot (element x) input.ref_ptr.0 x.content.ref_ptr.0 (input.ref_ptr.1 + x.head) x.content.ref_ptr.1 (input.ref_ptr.0, input.ref_ptr.1 + (x.head + length x.content.now)) after.ref_ptr (row_of after.now) at.0 at.1
    (same_pair after.ref_ptr input.ref_ptr.0 (input.ref_ptr.1 + (x.head + length x.content.now)) rest.0 rest.1)
