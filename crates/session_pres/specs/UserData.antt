-- User data of the presentation layer (ISO 8823-1, "User-data"): fully encoded, one PDV.
use Rattle.std.specs.Prelude.{◌≡◌, ℕ, ◌<◌, ◌^◌, List, [], ◌∷◌, Option, Some, None, nat_lt, ◌==◌, if◌then◌else◌}
use Rattle.ber_grammar.specs.Content.{IsUint}
use Rattle.ber_grammar.specs.Place.{Spot, Piece, content_piece}
use Rattle.ber_grammar.specs.Reader.{and_then, kept}
use Rattle.ber_grammar.specs.Reading.{uint_at}
use Rattle.session_pres.specs.declared.codes.TheConstants.{FULLY_ENCODED_DATA, SINGLE_ASN1_TYPE, INTEGER, OBJECT_IDENTIFIER, SEQUENCE}
use Rattle.ber_grammar.specs.Fields.{AreFields, IsOnly, fields_in, only_in, only_with}

-- A presentation context is known by a number of 32 bits.
abbrev pub IsContext : List ℕ → ℕ → Type 0
IsContext content n = IsUint content n × (n < 2 ^ 32)

-- INTEGER, the context's number; then [0], which holds one element, of any tag.
abbrev pub IsPair : Spot → Spot → ℕ × Piece → Type 0
IsPair a b pdv = (a.element.tag ≡ INTEGER) × IsContext a.element.content pdv.0 × (b.element.tag ≡ SINGLE_ASN1_TYPE) × (pdv.1 ≡ content_piece b) × (s : Spot) × AreFields pdv.1 (s ∷ [])

-- An OBJECT IDENTIFIER, the transfer syntax, may stand before them, and is skipped.
abbrev pub IsPdv : List Spot → ℕ × Piece → Type 0
IsPdv (a ∷ b ∷ []) pdv = IsPair a b pdv
IsPdv (syntax ∷ a ∷ b ∷ []) pdv = (syntax.element.tag ≡ OBJECT_IDENTIFIER) × IsPair a b pdv
IsPdv _ pdv = ⊥

-- one PDV, a SEQUENCE
abbrev pub IsPdvList : Piece → ℕ × Piece → Type 0
IsPdvList values pdv = (value : Piece) × IsOnly SEQUENCE values value × (fields : List Spot) × AreFields value fields × IsPdv fields pdv

-- user data as the whole input: [APPLICATION 1]
abbrev pub IsUserData : Piece → ℕ × Piece → Type 0
IsUserData input pdv = (values : Piece) × IsOnly FULLY_ENCODED_DATA input values × IsPdvList values pdv

-- ---- reading

unfoldable pub context_at : List ℕ → Option ℕ
context_at content = and_then (kept (uint_at content)) (λ n. if nat_lt n 4294967296 then Some n else None)

unfoldable pub pair_at : Spot → Spot → Option (ℕ × Piece)
pair_at a b = if a.element.tag == INTEGER
    then and_then (context_at a.element.content) (λ n. if b.element.tag == SINGLE_ASN1_TYPE then and_then (only_in (content_piece b)) (λ s. Some (n, content_piece b)) else None)
    else None

abbrev pub pdv_at : List Spot → Option (ℕ × Piece)
pdv_at [] = None
pdv_at (a ∷ []) = None
pdv_at (a ∷ b ∷ []) = pair_at a b
pdv_at (a ∷ b ∷ c ∷ []) = if a.element.tag == OBJECT_IDENTIFIER then pair_at b c else None
pdv_at (a ∷ b ∷ c ∷ d ∷ more) = None

unfoldable pub pdv_list_at : Piece → Option (ℕ × Piece)
pdv_list_at values = and_then (only_with SEQUENCE values) (λ value. and_then (fields_in value) pdv_at)

unfoldable pub user_data_at : Piece → Option (ℕ × Piece)
user_data_at input = and_then (only_with FULLY_ENCODED_DATA input) pdv_list_at
