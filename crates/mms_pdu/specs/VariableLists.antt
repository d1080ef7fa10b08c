-- ISO 9506-2, DefineNamedVariableList-Request and DeleteNamedVariableList-Request.
use Rattle.std.specs.Prelude.{◌≡◌, ℕ, ◌<◌, ◌⊎◌, List, [], ◌∷◌, Option, Some, None, ◌==◌, if◌then◌else◌}
use Rattle.ber_grammar.specs.Content.{IsUint}
use Rattle.ber_grammar.specs.Element.{Element, IsRow}
use Rattle.ber_grammar.specs.Place.{Spot, Piece, content_piece}
use Rattle.ber_grammar.specs.Reader.{and_then}
use Rattle.mms_pdu.specs.Each.{Each, each_in}
use Rattle.mms_pdu.specs.ObjectName.{Name, IsName, name_at}
use Rattle.mms_pdu.specs.NameList.{octet_at}
use Rattle.mms_pdu.specs.Variable.{Variable, AreVariables, variable_at}
use Rattle.mms_pdu.specs.Service.{Service}
use Rattle.mms_pdu.specs.Service as services
use Rattle.mms_elements.specs.declared.tags.TheConstants.{LIST_OF_NAME, LIST_OF_VARIABLE, SCOPE_OF_DELETE}

-- the name, and listOfVariable
abbrev pub IsDefine : List Element → Name (List ℕ) → List (Variable (List ℕ)) → Type 0
IsDefine (a ∷ b ∷ []) n vs = IsName a n × (b.tag ≡ LIST_OF_VARIABLE) × AreVariables b.content vs
IsDefine es n vs = ⊥

-- scopeOfDelete, of one octet's range
abbrev pub IsDeleteScope : Element → ℕ → Type 0
IsDeleteScope e scope = (e.tag ≡ SCOPE_OF_DELETE) × IsUint e.content scope × (scope < 256)

-- listOfVariableListName
abbrev pub AreNames : Element → List (Name (List ℕ)) → Type 0
AreNames e ns = (e.tag ≡ LIST_OF_NAME) × (es : List Element) × IsRow e.content es × Each IsName es ns

-- Each of the two may be absent: the scope is 0 then, and the names are none.
abbrev pub IsDelete : List Element → ℕ → List (Name (List ℕ)) → Type 0
IsDelete [] scope ns = (scope ≡ 0) × (ns ≡ [])
IsDelete (a ∷ []) scope ns = (IsDeleteScope a scope × (ns ≡ [])) ⊎ ((scope ≡ 0) × AreNames a ns)
IsDelete (a ∷ b ∷ []) scope ns = IsDeleteScope a scope × AreNames b ns
IsDelete (a ∷ b ∷ c ∷ es) scope ns = ⊥

-- ---- reading

unfoldable pub variable_list_at : Spot → Option (List (Variable Piece))
variable_list_at s = if s.element.tag == LIST_OF_VARIABLE then each_in variable_at (content_piece s) else None

unfoldable pub define_at : List Spot → Option (Service Piece Spot)
define_at [] = None
define_at (s ∷ []) = None
define_at (s ∷ t ∷ []) = and_then (name_at s) (λ n. and_then (variable_list_at t) (λ vs. Some (services.define n vs)))
define_at (s ∷ t ∷ u ∷ more) = None

unfoldable pub names_at : List Spot → Option (List (Name Piece))
names_at [] = Some []
names_at (s ∷ []) = if s.element.tag == LIST_OF_NAME then each_in name_at (content_piece s) else None
names_at (s ∷ t ∷ more) = None

unfoldable pub delete_at : List Spot → Option (Service Piece Spot)
delete_at [] = Some (services.delete 0 [])
delete_at (s ∷ more) =
    if s.element.tag == SCOPE_OF_DELETE
    then and_then (octet_at SCOPE_OF_DELETE s) (λ scope. and_then (names_at more) (λ ns. Some (services.delete scope ns)))
    else and_then (names_at (s ∷ more)) (λ ns. Some (services.delete 0 ns))
