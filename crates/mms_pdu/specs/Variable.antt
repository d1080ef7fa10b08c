-- ISO 9506-2, the items of listOfVariable: a VariableSpecification that is a name, and an optional AlternateAccess.
use Rattle.std.specs.Prelude.{◌≡◌, ℕ, Bool, true, false, List, [], ◌∷◌, Option, Some, None, ◌==◌, if◌then◌else◌}
use Rattle.ber_grammar.specs.Element.{Element, IsRow}
use Rattle.ber_grammar.specs.Place.{Spot, Piece, content_piece}
use Rattle.ber_grammar.specs.Reader.{and_then}
use Rattle.mms_pdu.specs.Each.{Each}
use Rattle.ber_grammar.specs.Fields.{fields_in, only_in}
use Rattle.mms_pdu.specs.ObjectName.{Name, name_octets, IsOnlyName, name_at}
use Rattle.mms_elements.specs.declared.tags.TheConstants.{ALTERNATE_ACCESS, NAME, VARIABLE}

pub record Variable (N : Type 0) : Type 0 where
  pub name : Name N
  pub alternate : Bool

abbrev pub variable_octets : Variable Piece → Variable (List ℕ)
variable_octets v = record { name = name_octets v.name; alternate = v.alternate }

-- Whether alternate access is asked for: it is one whole element, whatever it holds.
abbrev pub IsAlternate : List Element → Bool → Type 0
IsAlternate [] b = b ≡ false
IsAlternate (e ∷ []) b = (e.tag ≡ ALTERNATE_ACCESS) × (b ≡ true)
IsAlternate (e ∷ d ∷ es) b = ⊥

-- the first field holds the name
abbrev pub IsSpecified : List Element → Variable (List ℕ) → Type 0
IsSpecified [] v = ⊥
IsSpecified (e ∷ es) v = (e.tag ≡ NAME) × IsOnlyName e.content v.name × IsAlternate es v.alternate

-- a SEQUENCE
abbrev pub IsVariable : Element → Variable (List ℕ) → Type 0
IsVariable e v = (e.tag ≡ VARIABLE) × (es : List Element) × IsRow e.content es × IsSpecified es v

-- the content is these variables
abbrev pub AreVariables : List ℕ → List (Variable (List ℕ)) → Type 0
AreVariables content vs = (es : List Element) × IsRow content es × Each IsVariable es vs

-- ---- reading

abbrev pub alternate_at : List Spot → Option Bool
alternate_at [] = Some false
alternate_at (s ∷ []) = if s.element.tag == ALTERNATE_ACCESS then Some true else None
alternate_at (s ∷ t ∷ more) = None

-- the name that an element of this tag holds
unfoldable pub named_at : ℕ → Spot → Option (Name Piece)
named_at tag s = if s.element.tag == tag then and_then (only_in (content_piece s)) name_at else None

unfoldable pub specified_at : List Spot → Option (Variable Piece)
specified_at [] = None
specified_at (s ∷ more) = and_then (named_at NAME s) (λ name. and_then (alternate_at more) (λ alternate. Some (record { name = name; alternate = alternate })))

unfoldable pub variable_at : Spot → Option (Variable Piece)
variable_at s = if s.element.tag == VARIABLE then and_then (fields_in (content_piece s)) specified_at else None
