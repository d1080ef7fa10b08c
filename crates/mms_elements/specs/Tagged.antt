-- A number under a tag, alone and in front of other octets, with where these lie in memory.
use Rattle.std.specs.Prelude.{◌≡◌, ℕ, ◌+◌, ◌^◌, ◌==◌, List, length, Option, Some, None, if◌then◌else◌}
use Rattle.ber_grammar.specs.Element.{Element, Begins}
use Rattle.ber_grammar.specs.Fields.{spot_in}
use Rattle.ber_grammar.specs.Place.{Spot, Piece}
use Rattle.ber_grammar.specs.Reader.{and_then, kept}
use Rattle.ber_grammar.specs.Reading.{first_at}
use Rattle.mms_elements.specs.Invoke.{IsUnsigned32, below_at}

-- a number of 32 bits under a tag
abbrev pub IsNumber : ℕ → Element → ℕ → Type 0
IsNumber tag e n = (e.tag ≡ tag) × IsUnsigned32 e.content n

-- the content begins with a number under a tag, and then come the other octets
abbrev pub IsNumbered : ℕ → List ℕ → ℕ → List ℕ → Type 0
IsNumbered tag content n rest = (e : Element) × Begins content e rest × IsNumber tag e n

-- ---- reading

unfoldable pub number_at : ℕ → Element → Option ℕ
number_at tag e = if e.tag == tag then below_at (2 ^ 32) e.content else None

-- the first element of octets, and the octets after it
abbrev pub behind : Piece → Element → List ℕ → Piece
behind p e rest = record { octets = rest; block = p.block; place = p.place + (e.head + length e.content) }

unfoldable pub first_in : Piece → Option (Spot × Piece)
first_in p = and_then (kept (first_at p.octets)) (λ x. Some (spot_in p x.0, behind p x.0 x.1))

-- a number in front, and the octets after it
unfoldable pub numbered_in : ℕ → Piece → Option (ℕ × Piece)
numbered_in tag p = and_then (first_in p) (λ x. and_then (number_at tag x.0.element) (λ n. Some (n, x.1)))
