-- The answers to a read and to a write (ISO 9506-2, Read-Response and Write-Response).
use Rattle.std.specs.Prelude.{◌≡◌, ◌≢◌, ℕ, ◌<◌, ◌==◌, ◌&&◌, ◌⊎◌, Bool, true, false, List, [], ◌∷◌, length, Option, Some, None, is_some, if◌then◌else◌}
use Rattle.std.specs.List.{AllByRecursion, list_all}
use Rattle.ber_grammar.specs.Element.{Element, IsRow}
use Rattle.ber_grammar.specs.Content.{IsUint}
use Rattle.ber_grammar.specs.Place.{Spot, Piece, content_piece}
use Rattle.ber_grammar.specs.Reader.{and_then}
use Rattle.sv_base.specs.Tree.{Seen}
use Rattle.mms_data.specs.Grammar.{IsWithin}
use Rattle.ber_grammar.specs.Fields.{fields_in, only_in}
use Rattle.mms_elements.specs.Invoke.{below_at}
use Rattle.mms_pdu.specs.Access.{Access, IsAccess, access_at}
use Rattle.mms_pdu.specs.Datum.{datum_at}
use Rattle.mms_elements.specs.declared.tags.TheConstants.{FAILURE, LIST_OF_RESULT, READ, SPECIFICATION_OF_RESULT, SUCCESS, WRITE}

-- DataAccessError, a number of 8 bits
abbrev pub IsFailed : Element → Type 0
IsFailed e = (e.tag ≡ FAILURE) × (code : ℕ) × IsUint e.content code × (code < 256)

-- AccessResult: a failure, or else Data, at most ten deep
abbrev pub IsResult : Element → Type 0
IsResult e = IsFailed e ⊎ ((e.tag ≢ FAILURE) × (value : Seen) × IsWithin 10 e value)

-- of a write: a failure, or success, which has no content
abbrev pub IsWritten : Element → Type 0
IsWritten e = IsFailed e ⊎ ((e.tag ≡ SUCCESS) × (e.content ≡ []))

-- the content is such elements
abbrev pub AreAll : (Element → Type 0) → List ℕ → Type 0
AreAll Is content = (es : List Element) × IsRow content es × AllByRecursion Is es

-- what was read
abbrev pub IsSpecification : Element → Type 0
IsSpecification e = (e.tag ≡ SPECIFICATION_OF_RESULT) × (k : Element) × IsRow e.content (k ∷ []) × (access : Access (List ℕ)) × IsAccess k access

-- listOfAccessResult
abbrev pub AreResults : Element → Type 0
AreResults e = (e.tag ≡ LIST_OF_RESULT) × AreAll IsResult e.content

-- the specification, which may be absent, and the results
abbrev pub IsReadAnswer : List Element → Type 0
IsReadAnswer [] = ⊥
IsReadAnswer (r ∷ []) = AreResults r
IsReadAnswer (s ∷ r ∷ []) = IsSpecification s × AreResults r
IsReadAnswer (s ∷ r ∷ e ∷ es) = ⊥

-- The body of the answer to a read and to a write is of its form. Of other bodies nothing is said.
pub record IsAnswerBody (tag : ℕ) (body : List ℕ) : Type 0 where
  pub read : tag ≡ READ → (es : List Element) × IsRow body es × IsReadAnswer es
  pub written : tag ≡ WRITE → AreAll IsWritten body

-- ---- reading

abbrev pub holds : {A : Type 0} → (A → Bool) → Option A → Bool
holds test None = false
holds test (Some x) = test x

abbrev pub is_failed : Spot → Bool
is_failed s = is_some (below_at 256 s.element.content)

unfoldable pub is_result : Spot → Bool
is_result s = if s.element.tag == FAILURE then is_failed s else is_some (datum_at s)

unfoldable pub is_written : Spot → Bool
is_written s = if s.element.tag == FAILURE then is_failed s else s.element.tag == SUCCESS && length s.element.content == 0

unfoldable pub is_specification : Spot → Bool
is_specification s = s.element.tag == SPECIFICATION_OF_RESULT && is_some (and_then (only_in (content_piece s)) access_at)

unfoldable pub are_results : Spot → Bool
are_results s = s.element.tag == LIST_OF_RESULT && holds (list_all is_result) (fields_in (content_piece s))

abbrev pub is_read_answer : List Spot → Bool
is_read_answer [] = false
is_read_answer (r ∷ []) = are_results r
is_read_answer (s ∷ r ∷ []) = is_specification s && are_results r
is_read_answer (s ∷ r ∷ t ∷ more) = false

unfoldable pub is_answer_body : ℕ → Piece → Bool
is_answer_body tag body =
    if tag == READ then holds is_read_answer (fields_in body)
    else if tag == WRITE then holds (list_all is_written) (fields_in body)
    else true
