-- No spelling of the same fields is shorter than what is written.
use Rattle.std.proofs.Common.{◌≡◌, ℕ, ◌+◌, ◌≤◌, List, [], ◌∷◌, ◌++◌, length, ap, arith}
use Rattle.std.proofs.lemmas.List.{length-append}
use Rattle.ber_grammar.specs.Octets.{IsBytes}
use Rattle.ber_grammar.specs.Element.{Element, IsRow}
use Rattle.ber_grammar.specs.Content.{IsUint}
use Rattle.ber_grammar.proofs.OctetLaws.{Spells-bytes, IsRow-bytes}
use Rattle.ber_write.specs.Minimal.{octets_of, uint_octets}
use Rattle.ber_write.proofs.ShortestLaws.{uint_shortest}
use Rattle.ber_write.proofs.LengthLaws.{octets_grow}
use Rattle.ber_write.proofs.WrittenLaws.{row_least, element_least}
use Rattle.acse_apdu.specs.declared.codes.TheConstants.{AARQ, AARE, APPLICATION_CONTEXT_NAME, RESULT, RESULT_SOURCE_DIAGNOSTIC, SERVICE_USER, USER_INFORMATION, REASON, EXTERNAL, SINGLE_ASN1_TYPE, INTEGER, OBJECT_IDENTIFIER}
use Rattle.acse_apdu.specs.Grammar.{mms_context}
use Rattle.acse_apdu.specs.Plain.{HoldsName, HoldsResult, HoldsExternal, IsPlainAarq, IsPlainAare, IsPlainRelease}
use Rattle.acse_apdu.specs.Written.{name_field, result_fields, external_content, information_content, aarq_content, aare_content, aarq_octets, aare_octets, release_octets}

-- ---- elements

-- the same of an element of a row
field_least : (tag : ℕ) (content : List ℕ) (e : Element) → e.tag ≡ tag → length content ≤ length e.content → length (octets_of tag content) ≤ length (octets_of e.tag e.content)
field_least tag content e is_tag le = omega (arith, ap (λ (t : ℕ). length (octets_of t e.content)) is_tag, octets_grow tag content e.content le)

one_least : (tag : ℕ) (octets content : List ℕ) (e : Element) → IsBytes octets → IsRow octets (e ∷ []) → e.tag ≡ tag → length content ≤ length e.content → length (octets_of tag content) ≤ length octets
one_least tag octets content e fits row is_tag le = omega (arith, row_least octets (e ∷ []) fits row, field_least tag content e is_tag le)

-- ---- fields

name_least : (field : Element) → IsBytes field.content → HoldsName field → length name_field ≤ length (octets_of field.tag field.content)
name_least field fits (name, holds, is_tag, at) =
    field_least APPLICATION_CONTEXT_NAME (octets_of OBJECT_IDENTIFIER mms_context) field holds.is_tag (one_least OBJECT_IDENTIFIER field.content mms_context name fits holds.row is_tag (omega (arith, ap length at)))

zero_least : (content : List ℕ) → IsUint content 0 → 1 ≤ length content
zero_least [] h = absurd h
zero_least (a ∷ rest) h = omega arith

number_least : (octets : List ℕ) (number : Element) → IsBytes octets → IsRow octets (number ∷ []) → number.tag ≡ INTEGER → IsUint number.content 0 → length (octets_of INTEGER (0 ∷ [])) ≤ length octets
number_least octets number fits row is_tag zero = one_least INTEGER octets (0 ∷ []) number fits row is_tag (zero_least number.content zero)

result_least : (result diagnostic : Element) → IsBytes result.content → IsBytes diagnostic.content → HoldsResult result diagnostic → length result_fields ≤ length (octets_of result.tag result.content) + length (octets_of diagnostic.tag diagnostic.content)
result_least result diagnostic fits also_fits (number, user, null, in_result, in_diagnostic, in_user, number_tag, zero, null_tag, null_zero) =
    let user_fits = (IsRow-bytes diagnostic.content (user ∷ []) also_fits in_diagnostic.row).0 in
    let inside = number_least user.content null user_fits in_user.row null_tag null_zero in
    let first = field_least RESULT (octets_of INTEGER (0 ∷ [])) result in_result.is_tag (number_least result.content number fits in_result.row number_tag zero) in
    let second = field_least RESULT_SOURCE_DIAGNOSTIC (octets_of SERVICE_USER (octets_of INTEGER (0 ∷ []))) diagnostic in_diagnostic.is_tag (one_least SERVICE_USER diagnostic.content (octets_of INTEGER (0 ∷ [])) user also_fits in_diagnostic.row in_user.is_tag inside) in
    omega (arith, first, second, length-append (octets_of RESULT (octets_of INTEGER (0 ∷ []))) (octets_of RESULT_SOURCE_DIAGNOSTIC (octets_of SERVICE_USER (octets_of INTEGER (0 ∷ [])))))

information_least : (field : Element) (context : ℕ) (pdu : List ℕ) → IsBytes field.content → HoldsExternal field context pdu → length (octets_of USER_INFORMATION (information_content context pdu)) ≤ length (octets_of field.tag field.content)
information_least field context pdu fits (external, reference, number, value, in_field, in_external, reference_tag, reference_is, number_tag, is_number, value_tag, value_is) =
    let inside = (IsRow-bytes field.content (external ∷ []) fits in_field.row).0 in
    let bytes = IsRow-bytes external.content (reference ∷ number ∷ value ∷ []) inside in_external.row in
    let first = field_least OBJECT_IDENTIFIER (0x51 ∷ 0x01 ∷ []) reference reference_tag (omega (arith, ap length reference_is)) in
    let second = field_least INTEGER (uint_octets context) number number_tag (uint_shortest number.content context bytes.1.0 is_number).0 in
    let third = field_least SINGLE_ASN1_TYPE pdu value value_tag (omega (arith, ap length value_is)) in
    let short : length (external_content context pdu) ≤ length external.content =
    omega (arith, row_least external.content (reference ∷ number ∷ value ∷ []) inside in_external.row, first, second, third, length-append (octets_of OBJECT_IDENTIFIER (0x51 ∷ 0x01 ∷ [])) (octets_of INTEGER (uint_octets context) ++ octets_of SINGLE_ASN1_TYPE pdu), length-append (octets_of INTEGER (uint_octets context)) (octets_of SINGLE_ASN1_TYPE pdu)) in
    field_least USER_INFORMATION (information_content context pdu) field in_field.is_tag (one_least EXTERNAL field.content (external_content context pdu) external fits in_field.row in_external.is_tag short)

-- ---- APDUs

pub aarq_shortest : (octets : List ℕ) (context : ℕ) (pdu : List ℕ) → IsBytes octets → IsPlainAarq octets context pdu → length (aarq_octets context pdu) ≤ length octets
unfolding aarq_octets
aarq_shortest octets context pdu fits (e, name, information, spelled, holds, named, carries) =
    let inside = Spells-bytes octets e fits spelled in
    let bytes = IsRow-bytes e.content (name ∷ information ∷ []) inside holds.row in
    let short : length (aarq_content context pdu) ≤ length e.content =
    omega (arith, row_least e.content (name ∷ information ∷ []) inside holds.row, name_least name bytes.0 named, information_least information context pdu bytes.1.0 carries, length-append name_field (octets_of USER_INFORMATION (information_content context pdu))) in
    element_least AARQ octets (aarq_content context pdu) e fits spelled holds.is_tag short

pub aare_shortest : (octets : List ℕ) (context : ℕ) (pdu : List ℕ) → IsBytes octets → IsPlainAare octets context pdu → length (aare_octets context pdu) ≤ length octets
unfolding aare_octets
aare_shortest octets context pdu fits (e, name, result, diagnostic, information, spelled, holds, named, accepts, carries) =
    let inside = Spells-bytes octets e fits spelled in
    let all = name ∷ result ∷ diagnostic ∷ information ∷ [] in
    let bytes = IsRow-bytes e.content all inside holds.row in
    let short : length (aare_content context pdu) ≤ length e.content =
    omega (
      arith,
      row_least e.content all inside holds.row,
      name_least name bytes.0 named,
      result_least result diagnostic bytes.1.0 bytes.1.1.0 accepts,
      information_least information context pdu bytes.1.1.1.0 carries,
      length-append name_field (result_fields ++ octets_of USER_INFORMATION (information_content context pdu)),
      length-append result_fields (octets_of USER_INFORMATION (information_content context pdu)),
    ) in
    element_least AARE octets (aare_content context pdu) e fits spelled holds.is_tag short

pub release_shortest : (tag : ℕ) (octets : List ℕ) → IsBytes octets → IsPlainRelease tag octets → length (release_octets tag) ≤ length octets
release_shortest tag octets fits (e, reason, spelled, holds, is_tag, zero) =
    let inside = Spells-bytes octets e fits spelled in
    element_least tag octets (octets_of REASON (0 ∷ [])) e fits spelled holds.is_tag (one_least REASON e.content (0 ∷ []) reason inside holds.row is_tag (zero_least reason.content zero))
