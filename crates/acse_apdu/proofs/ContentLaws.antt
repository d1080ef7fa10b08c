-- What the content of an APDU says: the application context, the result, and the user information.
use Rattle.std.proofs.Common.{◌≡◌, ℕ, ◌^◌, ◌<◌, true, eqb, inl, inr, List, [], ◌∷◌, Option, Some, None, Result, Ok, Err, refl, sym, ap, subst, arith}
use Rattle.std.proofs.lemmas.Bool.{eqb-true, eq-eqb, ne_eqb, ltb-true, lt-ltb, and_parts}
use Rattle.list_laws.proofs.Distinct.{octets_same}
use Rattle.list_laws.proofs.Options.{chosen, sides}
use Rattle.ber_grammar.specs.declared.fault.BerFault.{BerFault}
use Rattle.ber_grammar.specs.Octets.{IsBytes}
use Rattle.ber_grammar.specs.Place.{Piece, Spot}
use Rattle.ber_grammar.specs.Reader.{and_then, kept}
use Rattle.ber_grammar.specs.Reading.{uint_at}
use Rattle.ber_grammar.proofs.OptionLaws.{kept_some, then_some}
use Rattle.ber_grammar.proofs.UintLaws.{uint_again, uint_found}
use Rattle.acse_apdu.specs.declared.codes.TheConstants.{APPLICATION_CONTEXT_NAME, RESULT, USER_INFORMATION, EXTERNAL, SINGLE_ASN1_TYPE, INTEGER, OBJECT_IDENTIFIER}
use Rattle.acse_apdu.specs.Grammar.{mms_context, NamesMms, IsAccepted, IsContext, IsEncoding, IsExternal, Carries}
use Rattle.ber_grammar.specs.Fields.{fields_in, field_with, with_tag, only_with}
use Rattle.acse_apdu.specs.Contents.{is_mms_name, names_mms, is_zero, result_at, is_accepted, is_word, is_context, value_of, behind_reference, external_of, pdu_at}
use Rattle.ber_grammar.proofs.FieldLaws.{fields_again, fields_found, field_with-again, field_with-found, with_tag-again, with_tag-found, only_with-again, only_with-found, HoldOctets, fields-hold, field-holds, only-holds}

-- ---- the application context

name_found : (o : Option Piece) → is_mms_name o ≡ true → (name : Piece) × (o ≡ Some name) × (name.octets ≡ mms_context)
name_found (Some name) h = (name, refl, octets_same name.octets mms_context h)
name_found None h = absurd cc

pub names_again : (content : Piece) → NamesMms content → names_mms content ≡ true
unfolding names_mms
names_again content (field, name, at, only, is) = rw (field_with-again APPLICATION_CONTEXT_NAME content field at, only_with-again OBJECT_IDENTIFIER field name only, is) refl

pub names_found : (content : Piece) → names_mms content ≡ true → NamesMms content
unfolding names_mms
names_found content h =
    let a = name_found (and_then (field_with APPLICATION_CONTEXT_NAME content) (λ (field : Piece). only_with OBJECT_IDENTIFIER field)) h in
    let b = then_some (field_with APPLICATION_CONTEXT_NAME content) (λ (field : Piece). only_with OBJECT_IDENTIFIER field) a.0 a.1 in
    (b.0, a.0, field_with-found APPLICATION_CONTEXT_NAME content b.0 b.1, only_with-found OBJECT_IDENTIFIER b.0 a.0 b.2, a.2)

-- ---- the result

zero_found : (o : Option ℕ) → is_zero o ≡ true → o ≡ Some 0
zero_found (Some n) h = ap (λ (k : ℕ). Some k) (eqb-true n 0 h)
zero_found None h = absurd cc

pub accepted_again : (content : Piece) → IsAccepted content → is_accepted content ≡ true
unfolding result_at
accepted_again content (field, number, at, only, is) = rw (field_with-again RESULT content field at, only_with-again INTEGER field number only, uint_again number.octets 0 is) refl

pub accepted_found : (content : Piece) → IsBytes content.octets → is_accepted content ≡ true → IsAccepted content
unfolding result_at
accepted_found content fits h =
    let number_of = λ (number : Piece). kept (uint_at number.octets) in
    let a = then_some (field_with RESULT content) (λ (field : Piece). and_then (only_with INTEGER field) number_of) 0 (zero_found _ h) in
    let b = then_some (only_with INTEGER a.0) number_of 0 a.2 in
    let at = field_with-found RESULT content a.0 a.1 in
    let only = only_with-found INTEGER a.0 b.0 b.1 in
    (a.0, b.0, at, only, uint_found b.0.octets (only-holds INTEGER a.0 b.0 (field-holds RESULT content a.0 fits at) only) 0 (kept_some (uint_at b.0.octets) 0 b.2))

-- ---- user information

word_found : (r : Result ℕ BerFault) → is_word r ≡ true → (n : ℕ) × (r ≡ Ok n) × (n < 2 ^ 32)
word_found (Ok n) h = (n, refl, ltb-true n (2 ^ 32) h)
word_found (Err f) h = absurd cc

context_found : (s : Spot) → IsBytes s.element.content → is_context s ≡ true → IsContext s
context_found s fits h =
    let a = and_parts (eqb s.element.tag INTEGER) (is_word (uint_at s.element.content)) h in
    let b = word_found (uint_at s.element.content) a.1 in
    (eqb-true s.element.tag INTEGER a.0, b.0, uint_found s.element.content fits b.0 b.1, b.2)

context_again : (s : Spot) → IsContext s → is_context s ≡ true
context_again s (is_tag, n, is, lt) = rw (eq-eqb s.element.tag INTEGER is_tag, uint_again s.element.content n is) (lt-ltb n (2 ^ 32) lt)

value_again : (context value : Spot) (pdu : Piece) → IsContext context → IsEncoding value pdu → value_of context (value ∷ []) ≡ Some pdu
value_again context value pdu is (is_tag, at) = rw (context_again context is) (with_tag-again SINGLE_ASN1_TYPE value pdu is_tag at)

-- an encoding after a context
abbrev IsPair : Spot → List Spot → Piece → Type 0
IsPair context rest pdu = (value : Spot) × (rest ≡ value ∷ []) × IsContext context × IsEncoding value pdu

value_found : (context : Spot) (rest : List Spot) (pdu : Piece) → IsBytes context.element.content → value_of context rest ≡ Some pdu → IsPair context rest pdu
value_found context [] pdu fits h = absurd cc
value_found context (value ∷ []) pdu fits h =
    let a = chosen (is_context context) (with_tag SINGLE_ASN1_TYPE value) pdu h in
    (value, refl, context_found context fits a.0, with_tag-found SINGLE_ASN1_TYPE value pdu a.1)
value_found context (value ∷ other ∷ others) pdu fits h = absurd cc

external_again : (fields : List Spot) (pdu : Piece) → IsExternal fields pdu → external_of fields ≡ Some pdu
external_again [] pdu h = absurd h
external_again (s ∷ []) pdu h = absurd h
external_again (context ∷ value ∷ []) pdu (is, encoding) =
    rw (ne_eqb context.element.tag OBJECT_IDENTIFIER (λ e. omega (arith, is.0, e))) (value_again context value pdu is encoding)
external_again (reference ∷ context ∷ value ∷ []) pdu (is_tag, is, encoding) = rw (eq-eqb reference.element.tag OBJECT_IDENTIFIER is_tag) (value_again context value pdu is encoding)
external_again (a ∷ b ∷ c ∷ d ∷ more) pdu h = absurd h

pair_is : (context : Spot) (rest : List Spot) (pdu : Piece) → IsPair context rest pdu → IsExternal (context ∷ rest) pdu
pair_is context rest pdu (value, at, is, encoding) = subst (λ (x : List Spot). IsExternal (context ∷ x) pdu) (sym at) (is, encoding)

referred_is : (reference context : Spot) (rest : List Spot) (pdu : Piece) → reference.element.tag ≡ OBJECT_IDENTIFIER → IsPair context rest pdu → IsExternal (reference ∷ context ∷ rest) pdu
referred_is reference context rest pdu is_tag (value, at, is, encoding) = subst (λ (x : List Spot). IsExternal (reference ∷ context ∷ x) pdu) (sym at) (is_tag, is, encoding)

behind_found : (reference : Spot) (fields : List Spot) (pdu : Piece) → HoldOctets fields → reference.element.tag ≡ OBJECT_IDENTIFIER → behind_reference fields ≡ Some pdu → IsExternal (reference ∷ fields) pdu
behind_found reference [] pdu fits is_tag h = absurd cc
behind_found reference (context ∷ rest) pdu fits is_tag h = referred_is reference context rest pdu is_tag (value_found context rest pdu fits.0 h)

external_found : (fields : List Spot) (pdu : Piece) → HoldOctets fields → external_of fields ≡ Some pdu → IsExternal fields pdu
external_found [] pdu fits h = absurd cc
external_found (s ∷ fields) pdu fits h =
    elim (sides (eqb s.element.tag OBJECT_IDENTIFIER) (behind_reference fields) (value_of s fields) (Some pdu) h) [
      | inl (is_tag, at) ↦ behind_found s fields pdu fits.1 (eqb-true s.element.tag OBJECT_IDENTIFIER is_tag) at
      | inr (other, at) ↦ pair_is s fields pdu (value_found s fields pdu fits.0 at)
    ]

pub pdu_again : (content pdu : Piece) → Carries content pdu → pdu_at content ≡ Some pdu
unfolding pdu_at
pdu_again content pdu (information, external, fields, at, only, row, is) =
    rw (field_with-again USER_INFORMATION content information at, only_with-again EXTERNAL information external only, fields_again external fields row) (external_again fields pdu is)

pub pdu_found : (content pdu : Piece) → IsBytes content.octets → pdu_at content ≡ Some pdu → Carries content pdu
unfolding pdu_at
pdu_found content pdu fits h =
    let inside = λ (external : Piece). and_then (fields_in external) (λ (fields : List Spot). external_of fields) in
    let a = then_some (field_with USER_INFORMATION content) (λ (information : Piece). and_then (only_with EXTERNAL information) inside) pdu h in
    let b = then_some (only_with EXTERNAL a.0) inside pdu a.2 in
    let c = then_some (fields_in b.0) (λ (fields : List Spot). external_of fields) pdu b.2 in
    let at = field_with-found USER_INFORMATION content a.0 a.1 in
    let only = only_with-found EXTERNAL a.0 b.0 b.1 in
    let row = fields_found b.0 c.0 c.1 in
    let hold = fields-hold b.0 c.0 (only-holds EXTERNAL a.0 b.0 (field-holds USER_INFORMATION content a.0 fits at) only) row in
    (a.0, b.0, c.0, at, only, row, external_found c.0 pdu hold c.2)
