-- ISO 9506-2, GetNameList-Request.
use Rattle.std.specs.Prelude.{◌≡◌, ℕ, ◌<◌, List, [], ◌∷◌, length, Option, Some, None, ◌==◌, if◌then◌else◌}
use Rattle.ber_grammar.specs.Content.{IsUint}
use Rattle.ber_grammar.specs.Element.{Element, IsRow}
use Rattle.ber_grammar.specs.Place.{Spot, Piece, content_piece}
use Rattle.ber_grammar.specs.Reader.{and_then}
use Rattle.ber_grammar.specs.Fields.{only_in}
use Rattle.mms_elements.specs.Invoke.{below_at}
use Rattle.mms_pdu.specs.Service.{Scope, of_vmd, of_domain, of_association, Service}
use Rattle.mms_pdu.specs.Service as services
use Rattle.mms_elements.specs.declared.tags.TheConstants.{AA_SCOPE, CONTINUE_AFTER, DOMAIN_SCOPE, EXTENDED_OBJECT_CLASS, OBJECT_CLASS, OBJECT_SCOPE, VMD_SCOPE}

-- objectClass holds basicObjectClass, of one octet's range
abbrev pub IsClass : Element → ℕ → Type 0
IsClass e class = (e.tag ≡ EXTENDED_OBJECT_CLASS) × (k : Element) × IsRow e.content (k ∷ []) × (k.tag ≡ OBJECT_CLASS) × IsUint k.content class × (class < 256)

-- objectScope holds vmdSpecific, domainSpecific with the domain's name, or aaSpecific
abbrev pub IsScope : Element → Scope (List ℕ) → Type 0
IsScope e of_vmd = (e.tag ≡ VMD_SCOPE) × (e.content ≡ [])
IsScope e (of_domain d) = (e.tag ≡ DOMAIN_SCOPE) × (d ≡ e.content)
IsScope e of_association = (e.tag ≡ AA_SCOPE) × (e.content ≡ [])

-- continueAfter may be absent
abbrev pub IsAfter : List Element → Option (List ℕ) → Type 0
IsAfter [] None = Unit {0}
IsAfter [] (Some o) = ⊥
IsAfter (e ∷ []) None = ⊥
IsAfter (e ∷ []) (Some o) = (e.tag ≡ CONTINUE_AFTER) × (o ≡ e.content)
IsAfter (e ∷ d ∷ es) after = ⊥

abbrev pub IsNameList : List Element → ℕ → Scope (List ℕ) → Option (List ℕ) → Type 0
IsNameList [] class scope after = ⊥
IsNameList (a ∷ []) class scope after = ⊥
IsNameList (a ∷ b ∷ es) class scope after = IsClass a class × (b.tag ≡ OBJECT_SCOPE) × (k : Element) × IsRow b.content (k ∷ []) × IsScope k scope × IsAfter es after

-- ---- reading

-- a number below 256 under this tag
unfoldable pub octet_at : ℕ → Spot → Option ℕ
octet_at tag s = if s.element.tag == tag then below_at 256 s.element.content else None

unfoldable pub class_at : Spot → Option ℕ
class_at s = if s.element.tag == EXTENDED_OBJECT_CLASS then and_then (only_in (content_piece s)) (octet_at OBJECT_CLASS) else None

abbrev pub inner_scope_at : Spot → Option (Scope Piece)
inner_scope_at s =
    if s.element.tag == VMD_SCOPE then (if length s.element.content == 0 then Some of_vmd else None)
    else if s.element.tag == DOMAIN_SCOPE then Some (of_domain (content_piece s))
    else if s.element.tag == AA_SCOPE then (if length s.element.content == 0 then Some of_association else None)
    else None

unfoldable pub scope_at : Spot → Option (Scope Piece)
scope_at s = if s.element.tag == OBJECT_SCOPE then and_then (only_in (content_piece s)) inner_scope_at else None

abbrev pub after_at : List Spot → Option (Option Piece)
after_at [] = Some None
after_at (s ∷ []) = if s.element.tag == CONTINUE_AFTER then Some (Some (content_piece s)) else None
after_at (s ∷ t ∷ more) = None

unfoldable pub name_list_at : List Spot → Option (Service Piece Spot)
name_list_at [] = None
name_list_at (a ∷ []) = None
name_list_at (a ∷ b ∷ more) = and_then (class_at a) (λ class. and_then (scope_at b) (λ scope. and_then (after_at more) (λ after. Some (services.names class scope after))))
