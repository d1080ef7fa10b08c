-- Reading what a content says: the application context, the result, and the user information.
use Rattle.std.specs.Prelude.{ℕ, ◌^◌, Bool, false, ◌&&◌, ◌==◌, nat_lt, List, [], ◌∷◌, bytes_eq, Option, Some, None, Result, Ok, Err, if◌then◌else◌}
use Rattle.ber_grammar.specs.declared.fault.BerFault.{BerFault}
use Rattle.ber_grammar.specs.Place.{Piece, Spot}
use Rattle.ber_grammar.specs.Reader.{and_then, kept}
use Rattle.ber_grammar.specs.Reading.{uint_at}
use Rattle.ber_grammar.specs.Fields.{fields_in, field_with, with_tag, only_with}
use Rattle.acse_apdu.specs.declared.codes.TheConstants.{APPLICATION_CONTEXT_NAME, RESULT, USER_INFORMATION, EXTERNAL, SINGLE_ASN1_TYPE, INTEGER, OBJECT_IDENTIFIER}
use Rattle.sv_base.specs.declared.object_ids.TheConstants.{MMS_CONTEXT}

-- ---- the application context and the result

abbrev pub is_mms : List ℕ → Bool
is_mms octets = bytes_eq octets MMS_CONTEXT

abbrev pub is_mms_name : Option Piece → Bool
is_mms_name None = false
is_mms_name (Some name) = is_mms name.octets

unfoldable pub names_mms : Piece → Bool
names_mms content = is_mms_name (and_then (field_with APPLICATION_CONTEXT_NAME content) (λ field. only_with OBJECT_IDENTIFIER field))

abbrev pub is_zero : Option ℕ → Bool
is_zero None = false
is_zero (Some n) = n == 0

unfoldable pub result_at : Piece → Option ℕ
result_at content = and_then (field_with RESULT content) (λ field. and_then (only_with INTEGER field) (λ number. kept (uint_at number.octets)))

abbrev pub is_accepted : Piece → Bool
is_accepted content = is_zero (result_at content)

-- ---- user information

abbrev pub is_word : Result ℕ BerFault → Bool
is_word (Ok n) = nat_lt n (2 ^ 32)
is_word (Err f) = false

abbrev pub is_context : Spot → Bool
is_context s = s.element.tag == INTEGER && is_word (uint_at s.element.content)

-- what follows the number of a context
abbrev pub value_of : Spot → List Spot → Option Piece
value_of context [] = None
value_of context (value ∷ []) = if is_context context then with_tag SINGLE_ASN1_TYPE value else None
value_of context (value ∷ other ∷ others) = None

abbrev pub behind_reference : List Spot → Option Piece
behind_reference [] = None
behind_reference (context ∷ fields) = value_of context fields

abbrev pub external_of : List Spot → Option Piece
external_of [] = None
external_of (s ∷ fields) = if s.element.tag == OBJECT_IDENTIFIER then behind_reference fields else value_of s fields

unfoldable pub pdu_at : Piece → Option Piece
pdu_at content = and_then (field_with USER_INFORMATION content) (λ information. and_then (only_with EXTERNAL information) (λ external. and_then (fields_in external) (λ fields. external_of fields)))
