-- The fields of a content: its elements, each with where its own content lies (ITU-T X.690, 8.1).
use Rattle.std.specs.Prelude.{◌≡◌, ◌≢◌, ℕ, ◌+◌, ◌==◌, ◌⊎◌, List, [], ◌∷◌, length, Option, Some, None, if◌then◌else◌}
use Rattle.ber_grammar.specs.Element.{Element, IsRow}
use Rattle.ber_grammar.specs.Place.{Spot, Piece, placed, content_piece}
use Rattle.ber_grammar.specs.Reader.{and_then, kept}
use Rattle.ber_grammar.specs.Reading.{first_at}
use Rattle.ber_grammar.specs.Rows.{parts_at, single}

-- the content is these fields, one after another
abbrev pub AreFields : Piece → List Spot → Type 0
AreFields content fields = (es : List Element) × IsRow content.octets es × (fields ≡ placed (content.block, content.place) es)

-- The content of the first of these fields with this tag. Fields with other tags are passed over.
abbrev pub IsFirst : ℕ → List Spot → Piece → Type 0
IsFirst tag [] inner = ⊥
IsFirst tag (s ∷ others) inner = ((s.element.tag ≡ tag) × (inner ≡ content_piece s)) ⊎ ((s.element.tag ≢ tag) × IsFirst tag others inner)

-- the same of the fields of a content
abbrev pub IsField : ℕ → Piece → Piece → Type 0
IsField tag content inner = (fields : List Spot) × AreFields content fields × IsFirst tag fields inner

-- the content of the only field, which has this tag
abbrev pub IsOnly : ℕ → Piece → Piece → Type 0
IsOnly tag content inner = (s : Spot) × AreFields content (s ∷ []) × (s.element.tag ≡ tag) × (inner ≡ content_piece s)

-- the element with which octets begin, and elements that octets are, each where it lies
abbrev pub spot_in : Piece → Element → Spot
spot_in p e = record { element = e; block = p.block; place = p.place + e.head }

abbrev pub spots : Piece → List Element → List Spot
spots p es = placed (p.block, p.place) es

-- ---- reading

-- the fields of a content
unfoldable pub fields_in : Piece → Option (List Spot)
fields_in p = and_then (kept (parts_at p.octets)) (λ es. Some (placed (p.block, p.place) es))

-- the only field of a content
unfoldable pub only_in : Piece → Option Spot
only_in p = and_then (fields_in p) single

-- the content of a field, if it has this tag
abbrev pub with_tag : ℕ → Spot → Option Piece
with_tag tag s = if s.element.tag == tag then Some (content_piece s) else None

-- the content of the only field, if it has this tag
unfoldable pub only_with : ℕ → Piece → Option Piece
only_with tag content = and_then (only_in content) (with_tag tag)

-- the content of the first of these fields with this tag
abbrev pub first_with : ℕ → List Spot → Option Piece
first_with tag [] = None
first_with tag (s ∷ others) = if s.element.tag == tag then Some (content_piece s) else first_with tag others

-- the same of the fields of a content
unfoldable pub field_with : ℕ → Piece → Option Piece
field_with tag content = and_then (fields_in content) (first_with tag)

-- the one element that octets are, and with where its content lies
unfoldable pub whole_at : List ℕ → Option Element
whole_at octets = and_then (kept (first_at octets)) (λ x. if length x.1 == 0 then Some x.0 else None)

abbrev pub whole_in : Piece → Option Spot
whole_in p = and_then (whole_at p.octets) (λ e. Some (spot_in p e))
