-- Reading the one element that octets are, and its fields.
use Rattle.std.specs.Prelude.{ℕ, Option, Some}
use Rattle.ber_grammar.specs.Place.{Piece}
use Rattle.ber_grammar.specs.Reader.{and_then}
use Rattle.ber_grammar.specs.Fields.{fields_in, with_tag, whole_in}

-- the content, if whole elements stand in it
abbrev pub with_fields : Piece → Option Piece
with_fields content = and_then (fields_in content) (λ fields. Some content)

-- the content of the APDU with this tag
unfoldable pub apdu_at : ℕ → Piece → Option Piece
apdu_at tag input = and_then (whole_in input) (λ s. and_then (with_tag tag s) with_fields)
