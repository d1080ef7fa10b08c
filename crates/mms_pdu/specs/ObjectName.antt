-- ISO 9506-2, ObjectName, and the octets of an Identifier.
use Rattle.std.specs.Prelude.{◌≡◌, ℕ, List, [], ◌∷◌, Option, Some, None, ◌==◌, if◌then◌else◌}
use Rattle.ber_grammar.specs.Content.{IsText}
use Rattle.ber_grammar.specs.Element.{Element, IsRow}
use Rattle.ber_grammar.specs.Place.{Spot, Piece, content_piece}
use Rattle.ber_grammar.specs.Reader.{and_then, kept}
use Rattle.ber_grammar.specs.Reading.{text_at}
use Rattle.ber_grammar.specs.Fields.{fields_in}
use Rattle.mms_elements.specs.declared.tags.TheConstants.{AA_SPECIFIC, DOMAIN_SPECIFIC, IDENTIFIER, VMD_SPECIFIC}

-- a name, of octets or of pieces of the input
pub data Name (N : Type 0) : Type 0 where
  vmd : N → Name N
  domain : N → N → Name N
  association : N → Name N

-- the octets of a name, without where they lie
abbrev pub name_octets : Name Piece → Name (List ℕ)
name_octets (vmd p) = vmd p.octets
name_octets (domain d i) = domain d.octets i.octets
name_octets (association p) = association p.octets

-- a VisibleString
abbrev pub IsIdentifier : Element → List ℕ → Type 0
IsIdentifier e o = (e.tag ≡ IDENTIFIER) × IsText e.content o

-- vmd-specific, domain-specific with the domain's identifier and the item's, or aa-specific
abbrev pub IsName : Element → Name (List ℕ) → Type 0
IsName e (vmd o) = (e.tag ≡ VMD_SPECIFIC) × (o ≡ e.content)
IsName e (domain d i) = (e.tag ≡ DOMAIN_SPECIFIC) × (a b : Element) × IsRow e.content (a ∷ b ∷ []) × IsIdentifier a d × IsIdentifier b i
IsName e (association o) = (e.tag ≡ AA_SPECIFIC) × (o ≡ e.content)

-- the content is one name
abbrev pub IsOnlyName : List ℕ → Name (List ℕ) → Type 0
IsOnlyName content n = (e : Element) × IsRow content (e ∷ []) × IsName e n

-- ---- reading

unfoldable pub identifier_at : Spot → Option Piece
identifier_at s = if s.element.tag == IDENTIFIER then and_then (kept (text_at s.element.content)) (λ o. Some (content_piece s)) else None

abbrev pub pair_at : List Spot → Option (Name Piece)
pair_at [] = None
pair_at (a ∷ []) = None
pair_at (a ∷ b ∷ []) = and_then (identifier_at a) (λ d. and_then (identifier_at b) (λ i. Some (domain d i)))
pair_at (a ∷ b ∷ c ∷ more) = None

unfoldable pub name_at : Spot → Option (Name Piece)
name_at s =
    if s.element.tag == VMD_SPECIFIC then Some (vmd (content_piece s))
    else if s.element.tag == DOMAIN_SPECIFIC then and_then (fields_in (content_piece s)) pair_at
    else if s.element.tag == AA_SPECIFIC then Some (association (content_piece s))
    else None
