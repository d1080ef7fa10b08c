-- What one side writes the other reads.
use Rattle.std.proofs.Common.{◌≡◌, ◌≢◌, ℕ, ◌+◌, ◌^◌, ◌<◌, ◌≤◌, inl, inr, List, [], ◌∷◌, ◌++◌, length, Ok, refl, sym, ap, subst, arith, rules}
use Rattle.std.proofs.lemmas.List.{length-append}
use Rattle.ber_grammar.specs.Element.{Element, Spells, IsRow}
use Rattle.ber_grammar.specs.Content.{IsUint}
use Rattle.ber_grammar.specs.Place.{Piece, Spot, placed, content_piece, anywhere}
use Rattle.ber_write.specs.Minimal.{octets_of, written, CanBeTag, uint_octets}
use Rattle.ber_write.proofs.ElementLaws.{is_spelling}
use Rattle.ber_write.proofs.NumberLaws.{unsigned_written, length-uint_octets}
use Rattle.acse_apdu.specs.declared.codes.TheConstants.{AARQ, AARE, RLRQ, RLRE, APPLICATION_CONTEXT_NAME, RESULT, RESULT_SOURCE_DIAGNOSTIC, SERVICE_USER, USER_INFORMATION, REASON, EXTERNAL, SINGLE_ASN1_TYPE, INTEGER, OBJECT_IDENTIFIER}
use Rattle.ber_grammar.specs.Fields.{AreFields, IsFirst, IsOnly}
use Rattle.ber_write.proofs.WrittenLaws.{written_last, written_more}
use Rattle.ber_write.proofs.LengthLaws.{octets_longer, octets_few}
use Rattle.acse_apdu.specs.Grammar.{IsApdu, mms_context, NamesMms, IsAccepted, Carries, IsAarq, IsAare, IsRelease}
use Rattle.acse_apdu.specs.Reading.{pdu_of_aarq, pdu_of_aare, rlrq_of, rlre_of}
use Rattle.acse_apdu.specs.Plain.{HoldsName, HoldsResult, HoldsExternal, IsPlainAarq, IsPlainAare, IsPlainRelease}
use Rattle.acse_apdu.specs.Written.{name_field, result_fields, external_content, information_content, aarq_content, aare_content, aarq_octets, aare_octets, release_octets}
use Rattle.acse_apdu.proofs.ApduLaws.{aarq_again, aare_again, release_again}

-- ---- written elements in a row

-- ---- an association

record Fits (context : ℕ) (pdu : List ℕ) : Type 0 where
  word : context < 2 ^ 32
  information : length (information_content context pdu) < 2 ^ 32

external_fits : (context : ℕ) (pdu : List ℕ) → Fits context pdu → length (external_content context pdu) < 2 ^ 32
external_fits context pdu f = omega (arith, f.information, octets_longer EXTERNAL (external_content context pdu))

pdu_fits : (context : ℕ) (pdu : List ℕ) → Fits context pdu → length pdu < 2 ^ 32
pdu_fits context pdu f =
    omega (arith, external_fits context pdu f, octets_longer SINGLE_ASN1_TYPE pdu, length-append (octets_of OBJECT_IDENTIFIER (0x51 ∷ 0x01 ∷ [])) (octets_of INTEGER (uint_octets context) ++ octets_of SINGLE_ASN1_TYPE pdu), length-append (octets_of INTEGER (uint_octets context)) (octets_of SINGLE_ASN1_TYPE pdu))

number_fits : (context : ℕ) (pdu : List ℕ) → Fits context pdu → length (uint_octets context) < 2 ^ 32
number_fits context pdu f =
    omega (arith, external_fits context pdu f, octets_longer INTEGER (uint_octets context), length-append (octets_of OBJECT_IDENTIFIER (0x51 ∷ 0x01 ∷ [])) (octets_of INTEGER (uint_octets context) ++ octets_of SINGLE_ASN1_TYPE pdu), length-append (octets_of INTEGER (uint_octets context)) (octets_of SINGLE_ASN1_TYPE pdu))

external_row : (context : ℕ) (pdu : List ℕ) → Fits context pdu → IsRow (external_content context pdu) (written OBJECT_IDENTIFIER (0x51 ∷ 0x01 ∷ []) ∷ written INTEGER (uint_octets context) ∷ written SINGLE_ASN1_TYPE pdu ∷ [])
external_row context pdu f =
    written_more OBJECT_IDENTIFIER (0x51 ∷ 0x01 ∷ []) (octets_of INTEGER (uint_octets context) ++ octets_of SINGLE_ASN1_TYPE pdu) (written INTEGER (uint_octets context) ∷ written SINGLE_ASN1_TYPE pdu ∷ []) (search rules) (omega arith)
    (written_more INTEGER (uint_octets context) (octets_of SINGLE_ASN1_TYPE pdu) (written SINGLE_ASN1_TYPE pdu ∷ []) (search rules) (number_fits context pdu f) (written_last SINGLE_ASN1_TYPE pdu (search rules) (pdu_fits context pdu f)))

-- the content of the first written element of a content
abbrev at_front : Piece → ℕ → List ℕ → Piece
at_front content tag inside = content_piece (record { element = written tag inside; block = content.block; place = content.place + (written tag inside).head })

only_written : (content : Piece) (tag : ℕ) (inside : List ℕ) → CanBeTag tag → length inside < 2 ^ 32 → content.octets ≡ octets_of tag inside → IsOnly tag content (at_front content tag inside)
only_written content tag inside is_tag small e = (
  record { element = written tag inside; block = content.block; place = content.place + (written tag inside).head },
  (written tag inside ∷ [], subst (λ (x : List ℕ). IsRow x (written tag inside ∷ [])) (sym e) (written_last tag inside is_tag small), refl),
  refl,
  refl,
)

name_row : (rest : List ℕ) (es : List Element) → IsRow rest es → IsRow (name_field ++ rest) (written APPLICATION_CONTEXT_NAME (octets_of OBJECT_IDENTIFIER mms_context) ∷ es)
name_row rest es row = written_more APPLICATION_CONTEXT_NAME (octets_of OBJECT_IDENTIFIER mms_context) rest es (search rules) (omega arith) row

result_row : (rest : List ℕ) (es : List Element) → IsRow rest es → IsRow (result_fields ++ rest) (written RESULT (octets_of INTEGER (0 ∷ [])) ∷ written RESULT_SOURCE_DIAGNOSTIC (octets_of SERVICE_USER (octets_of INTEGER (0 ∷ []))) ∷ es)
result_row rest es row =
    written_more RESULT (octets_of INTEGER (0 ∷ [])) (octets_of RESULT_SOURCE_DIAGNOSTIC (octets_of SERVICE_USER (octets_of INTEGER (0 ∷ []))) ++ rest) (written RESULT_SOURCE_DIAGNOSTIC (octets_of SERVICE_USER (octets_of INTEGER (0 ∷ []))) ∷ es) (search rules) (omega arith)
    (written_more RESULT_SOURCE_DIAGNOSTIC (octets_of SERVICE_USER (octets_of INTEGER (0 ∷ []))) rest es (search rules) (omega arith) row)

-- a first field that names MMS
names_written : (content : Piece) (es : List Element) → IsRow content.octets (written APPLICATION_CONTEXT_NAME (octets_of OBJECT_IDENTIFIER mms_context) ∷ es) → NamesMms content
names_written content es row =
    let field = at_front content APPLICATION_CONTEXT_NAME (octets_of OBJECT_IDENTIFIER mms_context) in
    let fields = placed (content.block, content.place) (written APPLICATION_CONTEXT_NAME (octets_of OBJECT_IDENTIFIER mms_context) ∷ es) in
    (field, at_front field OBJECT_IDENTIFIER mms_context, (fields, (written APPLICATION_CONTEXT_NAME (octets_of OBJECT_IDENTIFIER mms_context) ∷ es, row, refl), inl (refl, refl)), only_written field OBJECT_IDENTIFIER mms_context (search rules) (omega arith) refl, refl)

-- the elements of the EXTERNAL
abbrev external_elements : ℕ → List ℕ → List Element
external_elements context pdu = written OBJECT_IDENTIFIER (0x51 ∷ 0x01 ∷ []) ∷ written INTEGER (uint_octets context) ∷ written SINGLE_ASN1_TYPE pdu ∷ []

-- the user information
carries_written : (context : ℕ) (pdu : List ℕ) (content : Piece) (fields : List Spot) (information : Piece) → Fits context pdu → AreFields content fields → IsFirst USER_INFORMATION fields information → information.octets ≡ information_content context pdu
    → (p : Piece) × Carries content p × (p.octets ≡ pdu)
carries_written context pdu content fields information f row first e =
    let external = at_front information EXTERNAL (external_content context pdu) in
    let value : Spot = record { element = written SINGLE_ASN1_TYPE pdu; block = external.block; place = external.place + ((written OBJECT_IDENTIFIER (0x51 ∷ 0x01 ∷ [])).head + length (written OBJECT_IDENTIFIER (0x51 ∷ 0x01 ∷ [])).content) + ((written INTEGER (uint_octets context)).head + length (written INTEGER (uint_octets context)).content) + (written SINGLE_ASN1_TYPE pdu).head } in (
      content_piece value,
      (
        information,
        external,
        placed (external.block, external.place) (external_elements context pdu),
        (fields, row, first),
        only_written information EXTERNAL (external_content context pdu) (search rules) (external_fits context pdu f) e,
        (external_elements context pdu, external_row context pdu f, refl),
        (refl, (refl, context, (unsigned_written context (omega (arith, f.word))).0, f.word), (refl, refl)),
      ),
      refl,
    )

-- ---- APDUs

name_is_other : ◌≢◌ {A = ℕ} APPLICATION_CONTEXT_NAME USER_INFORMATION
name_is_other e = omega (arith, e)

name_is_no_result : ◌≢◌ {A = ℕ} APPLICATION_CONTEXT_NAME RESULT
name_is_no_result e = omega (arith, e)

result_is_other : ◌≢◌ {A = ℕ} RESULT USER_INFORMATION
result_is_other e = omega (arith, e)

diagnostic_is_other : ◌≢◌ {A = ℕ} RESULT_SOURCE_DIAGNOSTIC USER_INFORMATION
diagnostic_is_other e = omega (arith, e)

apdu_written : (tag : ℕ) (inside : List ℕ) (es : List Element) (input : Piece) → CanBeTag tag → length inside < 2 ^ 32 → IsRow inside es → input.octets ≡ octets_of tag inside → IsApdu tag input (at_front input tag inside)
apdu_written tag inside es input is_tag small row e =
    let content = at_front input tag inside in
    (written tag inside, placed (content.block, content.place) es, subst (λ (x : List ℕ). Spells x (written tag inside)) (sym e) (is_spelling tag inside is_tag small), refl, refl, (es, row, refl))

pub aarq_written : (input : Piece) (context : ℕ) (pdu : List ℕ) → context < 2 ^ 32 → length (aarq_content context pdu) < 2 ^ 32 → input.octets ≡ aarq_octets context pdu → (p : Piece) × IsAarq input p × (p.octets ≡ pdu)
unfolding aarq_octets
aarq_written input context pdu word small e =
    let fits : Fits context pdu = record { word = word; information = omega (arith, small, length-append name_field (octets_of USER_INFORMATION (information_content context pdu)), octets_longer USER_INFORMATION (information_content context pdu)) } in
    let es = written APPLICATION_CONTEXT_NAME (octets_of OBJECT_IDENTIFIER mms_context) ∷ written USER_INFORMATION (information_content context pdu) ∷ [] in
    let row : IsRow (aarq_content context pdu) es = name_row (octets_of USER_INFORMATION (information_content context pdu)) (written USER_INFORMATION (information_content context pdu) ∷ []) (written_last USER_INFORMATION (information_content context pdu) (search rules) fits.information) in
    let content = at_front input AARQ (aarq_content context pdu) in
    let fields = placed (content.block, content.place) es in
    let place = content.place + ((written APPLICATION_CONTEXT_NAME (octets_of OBJECT_IDENTIFIER mms_context)).head + length (octets_of OBJECT_IDENTIFIER mms_context)) + (written USER_INFORMATION (information_content context pdu)).head in
    let information : Piece = record { octets = information_content context pdu; block = content.block; place = place } in
    let a = carries_written context pdu content fields information fits (es, row, refl) (inr (name_is_other, inl (refl, refl))) refl in
    (a.0, (content, apdu_written AARQ (aarq_content context pdu) es input (search rules) small row e, names_written content (written USER_INFORMATION (information_content context pdu) ∷ []) row, a.1), a.2)

-- the elements of an AARE
abbrev response_elements : ℕ → List ℕ → List Element
response_elements context pdu = written RESULT (octets_of INTEGER (0 ∷ [])) ∷ written RESULT_SOURCE_DIAGNOSTIC (octets_of SERVICE_USER (octets_of INTEGER (0 ∷ []))) ∷ written USER_INFORMATION (information_content context pdu) ∷ []

accepted_written : (content : Piece) (es : List Element) → IsRow content.octets (written APPLICATION_CONTEXT_NAME (octets_of OBJECT_IDENTIFIER mms_context) ∷ written RESULT (octets_of INTEGER (0 ∷ [])) ∷ es) → IsAccepted content
accepted_written content es row =
    let all = written APPLICATION_CONTEXT_NAME (octets_of OBJECT_IDENTIFIER mms_context) ∷ written RESULT (octets_of INTEGER (0 ∷ [])) ∷ es in
    let place = content.place + ((written APPLICATION_CONTEXT_NAME (octets_of OBJECT_IDENTIFIER mms_context)).head + length (octets_of OBJECT_IDENTIFIER mms_context)) + (written RESULT (octets_of INTEGER (0 ∷ []))).head in
    let field : Piece = record { octets = octets_of INTEGER (0 ∷ []); block = content.block; place = place } in
    (field, at_front field INTEGER (0 ∷ []), (placed (content.block, content.place) all, (all, row, refl), inr (name_is_no_result, inl (refl, refl))), only_written field INTEGER (0 ∷ []) (search rules) (omega arith) refl, (omega arith, omega arith, refl, omega arith))

pub aare_written : (input : Piece) (context : ℕ) (pdu : List ℕ) → context < 2 ^ 32 → length (aare_content context pdu) < 2 ^ 32 → input.octets ≡ aare_octets context pdu → (p : Piece) × IsAare input p × (p.octets ≡ pdu)
unfolding aare_octets
aare_written input context pdu word small e =
    let fits : Fits context pdu = record { word = word; information = omega (arith, small, length-append name_field (result_fields ++ octets_of USER_INFORMATION (information_content context pdu)), length-append result_fields (octets_of USER_INFORMATION (information_content context pdu)), octets_longer USER_INFORMATION (information_content context pdu)) } in
    let es = written APPLICATION_CONTEXT_NAME (octets_of OBJECT_IDENTIFIER mms_context) ∷ response_elements context pdu in
    let last : IsRow (octets_of USER_INFORMATION (information_content context pdu)) (written USER_INFORMATION (information_content context pdu) ∷ []) = written_last USER_INFORMATION (information_content context pdu) (search rules) fits.information in
    let row : IsRow (aare_content context pdu) es =
    name_row (result_fields ++ octets_of USER_INFORMATION (information_content context pdu)) (response_elements context pdu) (result_row (octets_of USER_INFORMATION (information_content context pdu)) (written USER_INFORMATION (information_content context pdu) ∷ []) last) in
    let content = at_front input AARE (aare_content context pdu) in
    let fields = placed (content.block, content.place) es in
    let place = content.place + ((written APPLICATION_CONTEXT_NAME (octets_of OBJECT_IDENTIFIER mms_context)).head + length (octets_of OBJECT_IDENTIFIER mms_context)) + ((written RESULT (octets_of INTEGER (0 ∷ []))).head + length (octets_of INTEGER (0 ∷ [])))
    + ((written RESULT_SOURCE_DIAGNOSTIC (octets_of SERVICE_USER (octets_of INTEGER (0 ∷ [])))).head + length (octets_of SERVICE_USER (octets_of INTEGER (0 ∷ [])))) + (written USER_INFORMATION (information_content context pdu)).head in
    let information : Piece = record { octets = information_content context pdu; block = content.block; place = place } in
    let a = carries_written context pdu content fields information fits (es, row, refl) (inr (name_is_other, inr (result_is_other, inr (diagnostic_is_other, inl (refl, refl))))) refl in (
      a.0,
      (
        content,
        apdu_written AARE (aare_content context pdu) es input (search rules) small row e,
        accepted_written content (written RESULT_SOURCE_DIAGNOSTIC (octets_of SERVICE_USER (octets_of INTEGER (0 ∷ []))) ∷ written USER_INFORMATION (information_content context pdu) ∷ []) row,
        names_written content (response_elements context pdu) row,
        a.1,
      ),
      a.2,
    )

pub aarq_read_back : (context : ℕ) (pdu : List ℕ) → context < 2 ^ 32 → length (aarq_content context pdu) < 2 ^ 32 → pdu_of_aarq (aarq_octets context pdu) ≡ Ok pdu
unfolding pdu_of_aarq
aarq_read_back context pdu word small =
    let a = aarq_written (anywhere (aarq_octets context pdu)) context pdu word small refl in
    rw (aarq_again (anywhere (aarq_octets context pdu)) a.0 a.1) (ap (λ (x : List ℕ). Ok x) a.2)

pub aare_read_back : (context : ℕ) (pdu : List ℕ) → context < 2 ^ 32 → length (aare_content context pdu) < 2 ^ 32 → pdu_of_aare (aare_octets context pdu) ≡ Ok pdu
unfolding pdu_of_aare
aare_read_back context pdu word small =
    let a = aare_written (anywhere (aare_octets context pdu)) context pdu word small refl in
    rw (aare_again (anywhere (aare_octets context pdu)) a.0 a.1) (ap (λ (x : List ℕ). Ok x) a.2)

pub release_written : (tag : ℕ) (input : Piece) → CanBeTag tag → input.octets ≡ release_octets tag → IsRelease tag input
release_written tag input is_tag e =
    (at_front input tag (octets_of REASON (0 ∷ [])), apdu_written tag (octets_of REASON (0 ∷ [])) (written REASON (0 ∷ []) ∷ []) input is_tag (omega arith) (written_last REASON (0 ∷ []) (search rules) (omega arith)) e)

pub rlrq_read_back : rlrq_of (release_octets RLRQ) ≡ Ok tt
unfolding rlrq_of
rlrq_read_back = release_again RLRQ (anywhere (release_octets RLRQ)) (release_written RLRQ (anywhere (release_octets RLRQ)) (search rules) refl)

pub rlre_read_back : rlre_of (release_octets RLRE) ≡ Ok tt
unfolding rlre_of
rlre_read_back = release_again RLRE (anywhere (release_octets RLRE)) (release_written RLRE (anywhere (release_octets RLRE)) (search rules) refl)

-- ---- what fits

-- ---- it has exactly the fields that are written

name_plain : HoldsName (written APPLICATION_CONTEXT_NAME (octets_of OBJECT_IDENTIFIER mms_context))
name_plain = (written OBJECT_IDENTIFIER mms_context, record { is_tag = refl; row = written_last OBJECT_IDENTIFIER mms_context (search rules) (omega arith) }, refl, refl)

zero_plain : IsRow (octets_of INTEGER (0 ∷ [])) (written INTEGER (0 ∷ []) ∷ [])
zero_plain = written_last INTEGER (0 ∷ []) (search rules) (omega arith)

result_plain : HoldsResult (written RESULT (octets_of INTEGER (0 ∷ []))) (written RESULT_SOURCE_DIAGNOSTIC (octets_of SERVICE_USER (octets_of INTEGER (0 ∷ []))))
result_plain =
    let zero : IsUint (0 ∷ []) 0 = (omega arith, omega arith, refl, omega arith) in (
      written INTEGER (0 ∷ []),
      written SERVICE_USER (octets_of INTEGER (0 ∷ [])),
      written INTEGER (0 ∷ []),
      record { is_tag = refl; row = zero_plain },
      record { is_tag = refl; row = written_last SERVICE_USER (octets_of INTEGER (0 ∷ [])) (search rules) (omega arith) },
      record { is_tag = refl; row = zero_plain },
      refl,
      zero,
      refl,
      zero,
    )

external_plain : (context : ℕ) (pdu : List ℕ) → Fits context pdu → HoldsExternal (written USER_INFORMATION (information_content context pdu)) context pdu
external_plain context pdu f = (
  written EXTERNAL (external_content context pdu),
  written OBJECT_IDENTIFIER (0x51 ∷ 0x01 ∷ []),
  written INTEGER (uint_octets context),
  written SINGLE_ASN1_TYPE pdu,
  record { is_tag = refl; row = written_last EXTERNAL (external_content context pdu) (search rules) (external_fits context pdu f) },
  record { is_tag = refl; row = external_row context pdu f },
  refl,
  refl,
  refl,
  (unsigned_written context (omega (arith, f.word))).0,
  refl,
  refl,
)

pub aarq_plain : (context : ℕ) (pdu : List ℕ) → context < 2 ^ 32 → length (aarq_content context pdu) < 2 ^ 32 → IsPlainAarq (aarq_octets context pdu) context pdu
unfolding aarq_octets
aarq_plain context pdu word small =
    let fits : Fits context pdu = record { word = word; information = omega (arith, small, length-append name_field (octets_of USER_INFORMATION (information_content context pdu)), octets_longer USER_INFORMATION (information_content context pdu)) } in
    let name = written APPLICATION_CONTEXT_NAME (octets_of OBJECT_IDENTIFIER mms_context) in
    let information = written USER_INFORMATION (information_content context pdu) in
    let row : IsRow (aarq_content context pdu) (name ∷ information ∷ []) = name_row (octets_of USER_INFORMATION (information_content context pdu)) (information ∷ []) (written_last USER_INFORMATION (information_content context pdu) (search rules) fits.information) in
    (written AARQ (aarq_content context pdu), name, information, is_spelling AARQ (aarq_content context pdu) (search rules) small, record { is_tag = refl; row = row }, name_plain, external_plain context pdu fits)

pub aare_plain : (context : ℕ) (pdu : List ℕ) → context < 2 ^ 32 → length (aare_content context pdu) < 2 ^ 32 → IsPlainAare (aare_octets context pdu) context pdu
unfolding aare_octets
aare_plain context pdu word small =
    let fits : Fits context pdu = record { word = word; information = omega (arith, small, length-append name_field (result_fields ++ octets_of USER_INFORMATION (information_content context pdu)), length-append result_fields (octets_of USER_INFORMATION (information_content context pdu)), octets_longer USER_INFORMATION (information_content context pdu)) } in
    let name = written APPLICATION_CONTEXT_NAME (octets_of OBJECT_IDENTIFIER mms_context) in
    let result = written RESULT (octets_of INTEGER (0 ∷ [])) in
    let diagnostic = written RESULT_SOURCE_DIAGNOSTIC (octets_of SERVICE_USER (octets_of INTEGER (0 ∷ []))) in
    let information = written USER_INFORMATION (information_content context pdu) in
    let last : IsRow (octets_of USER_INFORMATION (information_content context pdu)) (information ∷ []) = written_last USER_INFORMATION (information_content context pdu) (search rules) fits.information in
    let row : IsRow (aare_content context pdu) (name ∷ result ∷ diagnostic ∷ information ∷ []) =
    name_row (result_fields ++ octets_of USER_INFORMATION (information_content context pdu)) (result ∷ diagnostic ∷ information ∷ []) (result_row (octets_of USER_INFORMATION (information_content context pdu)) (information ∷ []) last) in
    (written AARE (aare_content context pdu), name, result, diagnostic, information, is_spelling AARE (aare_content context pdu) (search rules) small, record { is_tag = refl; row = row }, name_plain, result_plain, external_plain context pdu fits)

pub release_plain : (tag : ℕ) → CanBeTag tag → IsPlainRelease tag (release_octets tag)
release_plain tag is_tag = (
  written tag (octets_of REASON (0 ∷ [])),
  written REASON (0 ∷ []),
  is_spelling tag (octets_of REASON (0 ∷ [])) is_tag (omega arith),
  record { is_tag = refl; row = written_last REASON (0 ∷ []) (search rules) (omega arith) },
  refl,
  (omega arith, omega arith, refl, omega arith),
)

pub rlrq_plain : IsPlainRelease RLRQ (release_octets RLRQ)
rlrq_plain = release_plain RLRQ (search rules)

pub rlre_plain : IsPlainRelease RLRE (release_octets RLRE)
rlre_plain = release_plain RLRE (search rules)

-- ---- a PDU that is not very long fits

information_short : (context : ℕ) (pdu : List ℕ) → length pdu ≤ 4294967000 → length (octets_of USER_INFORMATION (information_content context pdu)) ≤ 59 + length pdu
information_short context pdu le =
    omega (
      arith,
      octets_few USER_INFORMATION (information_content context pdu) (omega arith),
      octets_few EXTERNAL (external_content context pdu) (omega arith),
      octets_few SINGLE_ASN1_TYPE pdu (omega arith),
      octets_few INTEGER (uint_octets context) (omega arith),
      length-uint_octets context,
      length-append (octets_of OBJECT_IDENTIFIER (0x51 ∷ 0x01 ∷ [])) (octets_of INTEGER (uint_octets context) ++ octets_of SINGLE_ASN1_TYPE pdu),
      length-append (octets_of INTEGER (uint_octets context)) (octets_of SINGLE_ASN1_TYPE pdu),
    )

pub aarq_fits : (context : ℕ) (pdu : List ℕ) → length pdu ≤ 4294967000 → length (aarq_content context pdu) < 2 ^ 32
aarq_fits context pdu le = omega (arith, information_short context pdu le, length-append name_field (octets_of USER_INFORMATION (information_content context pdu)))

pub aare_fits : (context : ℕ) (pdu : List ℕ) → length pdu ≤ 4294967000 → length (aare_content context pdu) < 2 ^ 32
aare_fits context pdu le = omega (arith, information_short context pdu le, length-append name_field (result_fields ++ octets_of USER_INFORMATION (information_content context pdu)), length-append result_fields (octets_of USER_INFORMATION (information_content context pdu)))
