-- Elements and where they lie.
use Rattle.std.proofs.Common.{◌≡◌, ℕ, ◌+◌, List, [], ◌∷◌, length, refl}
use Rattle.ber_grammar.specs.Element.{Element}
use Rattle.ber_grammar.specs.Place.{placed, elements}

pub elements-placed : (from : ℕ × ℕ) (es : List Element) → elements (placed from es) ≡ es
elements-placed from [] = refl
elements-placed from (e ∷ es) = rw (elements-placed (from.0, from.1 + (e.head + length e.content)) es) refl
