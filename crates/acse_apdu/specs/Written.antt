-- How the APDUs are written: each field once, in the order of the standard, in its minimal spelling (ISO 8650-1, "ACSE-1";
-- ITU-T X.690, 8.1.3 and 8.3.2).
use Rattle.std.specs.Prelude.{ℕ, List, [], ◌∷◌, ◌++◌}
use Rattle.ber_write.specs.Minimal.{octets_of, uint_octets}
use Rattle.acse_apdu.specs.declared.codes.TheConstants.{AARQ, AARE, APPLICATION_CONTEXT_NAME, RESULT, RESULT_SOURCE_DIAGNOSTIC, SERVICE_USER, USER_INFORMATION, REASON, EXTERNAL, SINGLE_ASN1_TYPE, INTEGER, OBJECT_IDENTIFIER}
use Rattle.acse_apdu.specs.Grammar.{mms_context}
use Rattle.sv_base.specs.declared.object_ids.TheConstants.{BER}

-- application-context-name
abbrev pub name_field : List ℕ
name_field = octets_of APPLICATION_CONTEXT_NAME (octets_of OBJECT_IDENTIFIER mms_context)

-- result, accepted, and result-source-diagnostic, null of the service user
abbrev pub result_fields : List ℕ
result_fields = octets_of RESULT (octets_of INTEGER (0 ∷ [])) ++ octets_of RESULT_SOURCE_DIAGNOSTIC (octets_of SERVICE_USER (octets_of INTEGER (0 ∷ [])))

-- EXTERNAL: the direct reference is BER, 2.1.1
abbrev pub external_content : ℕ → List ℕ → List ℕ
external_content context pdu = octets_of OBJECT_IDENTIFIER (BER) ++ (octets_of INTEGER (uint_octets context) ++ octets_of SINGLE_ASN1_TYPE pdu)

-- user-information
abbrev pub information_content : ℕ → List ℕ → List ℕ
information_content context pdu = octets_of EXTERNAL (external_content context pdu)

abbrev pub aarq_content : ℕ → List ℕ → List ℕ
aarq_content context pdu = name_field ++ octets_of USER_INFORMATION (information_content context pdu)

abbrev pub aare_content : ℕ → List ℕ → List ℕ
aare_content context pdu = name_field ++ (result_fields ++ octets_of USER_INFORMATION (information_content context pdu))

unfoldable pub aarq_octets : ℕ → List ℕ → List ℕ
aarq_octets context pdu = octets_of AARQ (aarq_content context pdu)

unfoldable pub aare_octets : ℕ → List ℕ → List ℕ
aare_octets context pdu = octets_of AARE (aare_content context pdu)

-- an RLRQ or an RLRE, by its tag: the reason, [0], is 0, normal
abbrev pub release_octets : ℕ → List ℕ
release_octets tag = octets_of tag (octets_of REASON (0 ∷ []))
