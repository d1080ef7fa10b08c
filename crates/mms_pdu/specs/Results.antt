-- The one result of an answer to a read and to a write (ISO 9506-2, Read-Response and Write-Response).
use Rattle.std.specs.Prelude.{◌≡◌, ◌≢◌, ℕ, ◌<◌, ◌==◌, ◌&&◌, List, [], ◌∷◌, length, Option, Some, None, Result, Ok, Err, if◌then◌else◌}
use Rattle.std.specs.Option.{option_map}
use Rattle.ber_grammar.specs.Content.{IsUint}
use Rattle.ber_grammar.specs.Element.{Element, IsRow}
use Rattle.ber_grammar.specs.Fields.{fields_in, only_in}
use Rattle.ber_grammar.specs.Place.{Spot, Piece, content_piece}
use Rattle.ber_grammar.specs.Reader.{and_then, kept}
use Rattle.sv_base.specs.Seen.{seen_of}
use Rattle.sv_base.specs.Tree.{Seen}
use Rattle.sv_base.specs.declared.value.Value.{Value}
use Rattle.mms_data.specs.Grammar.{IsWithin}
use Rattle.mms_data.specs.Reading.{data_at}
use Rattle.mms_elements.specs.Invoke.{below_at}
use Rattle.mms_elements.specs.declared.tags.TheConstants.{FAILURE, LIST_OF_RESULT, SUCCESS}
use Rattle.mms_pdu.specs.Answer.{IsSpecification, is_specification}

-- the DataAccessError of a failure, a number of 8 bits
abbrev pub IsFailure : Element → ℕ → Type 0
IsFailure e code = (e.tag ≡ FAILURE) × IsUint e.content code × (code < 256)

-- AccessResult: a failure, or else Data, at most ten deep
abbrev pub IsReadResult : Element → Result Seen ℕ → Type 0
IsReadResult e (Err code) = IsFailure e code
IsReadResult e (Ok value) = (e.tag ≢ FAILURE) × IsWithin 10 e value

-- of a write: a failure, or success, which has no content
abbrev pub IsWriteResult : Element → Result (Unit {0}) ℕ → Type 0
IsWriteResult e (Err code) = IsFailure e code
IsWriteResult e (Ok u) = (e.tag ≡ SUCCESS) × (e.content ≡ [])

-- the content is one such element
abbrev pub HasOne : {R : Type 0} → (Element → R → Type 0) → List ℕ → R → Type 0
HasOne Is content r = (e : Element) × IsRow content (e ∷ []) × Is e r

-- listOfAccessResult of one variable
abbrev pub HasOneRead : Element → Result Seen ℕ → Type 0
HasOneRead e r = (e.tag ≡ LIST_OF_RESULT) × HasOne IsReadResult e.content r

-- the specification, which may be absent, and the one result
abbrev pub IsOneRead : List Element → Result Seen ℕ → Type 0
IsOneRead [] r = ⊥
IsOneRead (l ∷ []) r = HasOneRead l r
IsOneRead (s ∷ l ∷ []) r = IsSpecification s × HasOneRead l r
IsOneRead (s ∷ l ∷ e ∷ es) r = ⊥

-- the body of the answer to a read of one variable, and to a write of one
abbrev pub SaysRead : List ℕ → Result Seen ℕ → Type 0
SaysRead body r = (es : List Element) × IsRow body es × IsOneRead es r

abbrev pub SaysWritten : List ℕ → Result (Unit {0}) ℕ → Type 0
SaysWritten body r = HasOne IsWriteResult body r

-- the value that was read, as octets spell it, or the code
abbrev pub seen_result : Result Value ℕ → Result Seen ℕ
seen_result (Ok v) = Ok (seen_of v)
seen_result (Err code) = Err code

-- ---- reading

abbrev pub failure_at : {A : Type 0} → Spot → Option (Result A ℕ)
failure_at s = option_map (λ code. Err code) (below_at 256 s.element.content)

unfoldable pub read_at : Spot → Option (Result Seen ℕ)
read_at s = if s.element.tag == FAILURE then failure_at s else option_map (λ v. Ok v) (kept (data_at 10 s.element))

unfoldable pub written_at : Spot → Option (Result (Unit {0}) ℕ)
written_at s = if s.element.tag == FAILURE then failure_at s else if s.element.tag == SUCCESS && length s.element.content == 0 then Some (Ok tt) else None

-- the element with the results
abbrev pub results_at : List Spot → Option Spot
results_at [] = None
results_at (l ∷ []) = Some l
results_at (s ∷ l ∷ []) = if is_specification s then Some l else None
results_at (s ∷ l ∷ t ∷ more) = None

abbrev pub only_read : Spot → Option (Result Seen ℕ)
only_read l = if l.element.tag == LIST_OF_RESULT then and_then (only_in (content_piece l)) read_at else None

unfoldable pub one_read : Piece → Option (Result Seen ℕ)
one_read p = and_then (fields_in p) (λ ss. and_then (results_at ss) only_read)

unfoldable pub one_write : Piece → Option (Result (Unit {0}) ℕ)
one_write p = and_then (only_in p) written_at
