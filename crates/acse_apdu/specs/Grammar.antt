-- The APDUs that make and end an association, by cases on their elements (ISO 8650-1, ITU-T X.227, the module "ACSE-1").
-- A content is a piece: its octets, and where they lie.
use Rattle.std.specs.Prelude.{◌≡◌, ℕ, ◌^◌, ◌<◌, List, [], ◌∷◌}
use Rattle.ber_grammar.specs.Element.{Element, Spells}
use Rattle.ber_grammar.specs.Content.{IsUint}
use Rattle.ber_grammar.specs.Place.{Piece, Spot, content_piece}
use Rattle.ber_grammar.specs.Fields.{AreFields, IsField, IsOnly, spot_in}
use Rattle.acse_apdu.specs.declared.codes.TheConstants.{AARQ, AARE, APPLICATION_CONTEXT_NAME, RESULT, USER_INFORMATION, EXTERNAL, SINGLE_ASN1_TYPE, INTEGER, OBJECT_IDENTIFIER}
use Rattle.acse_apdu.specs.declared.fault.AcFault.{AcFault}
use Rattle.acse_apdu.specs.declared.fault.AcFault.TheVariants.{Apdu, ContextName, NoUserInformation}
use Rattle.sv_base.specs.declared.object_ids.TheConstants.{MMS_CONTEXT}

-- The input is one whole element with this tag, and its content is a row of whole elements.
abbrev pub IsApdu : ℕ → Piece → Piece → Type 0
IsApdu tag input content = (e : Element) × (fields : List Spot) × Spells input.octets e × (e.tag ≡ tag)
    × (content ≡ content_piece (spot_in input e)) × AreFields content fields

-- 1.0.9506.2.3, the application context of MMS (ISO 9506-2, IEC 61850-8-1): the octets of an OBJECT IDENTIFIER
abbrev pub mms_context : List ℕ
mms_context = MMS_CONTEXT

-- application-context-name, [1]: an OBJECT IDENTIFIER, the universal tag 6
abbrev pub NamesMms : Piece → Type 0
NamesMms content = (field name : Piece) × IsField APPLICATION_CONTEXT_NAME content field × IsOnly OBJECT_IDENTIFIER field name × (name.octets ≡ mms_context)

-- result, [2]: an INTEGER, the universal tag 2, of which 0 is accepted
abbrev pub IsAccepted : Piece → Type 0
IsAccepted content = (field number : Piece) × IsField RESULT content field × IsOnly INTEGER field number × IsUint number.octets 0

-- indirect-reference: the number of a presentation context
abbrev pub IsContext : Spot → Type 0
IsContext s = (s.element.tag ≡ INTEGER) × (n : ℕ) × IsUint s.element.content n × (n < 2 ^ 32)

-- encoding, single-ASN1-type, [0]: what it holds
abbrev pub IsEncoding : Spot → Piece → Type 0
IsEncoding s pdu = (s.element.tag ≡ SINGLE_ASN1_TYPE) × (pdu ≡ content_piece s)

-- EXTERNAL (ITU-T X.690, 8.18): a direct reference, the universal tag 6, which may be left out, the number of a context, and
-- the value
abbrev pub IsExternal : List Spot → Piece → Type 0
IsExternal (context ∷ value ∷ []) pdu = IsContext context × IsEncoding value pdu
IsExternal (reference ∷ context ∷ value ∷ []) pdu = (reference.element.tag ≡ OBJECT_IDENTIFIER) × IsContext context × IsEncoding value pdu
IsExternal fields pdu = ⊥

-- user-information, [30]: one EXTERNAL, the universal tag 8 of a constructed element
abbrev pub Carries : Piece → Piece → Type 0
Carries content pdu = (information external : Piece) × (fields : List Spot) × IsField USER_INFORMATION content information × IsOnly EXTERNAL information external × AreFields external fields × IsExternal fields pdu

-- AARQ, [APPLICATION 0]: it names the application context of MMS, and carries this. Other fields are skipped.
abbrev pub IsAarq : Piece → Piece → Type 0
IsAarq input pdu = (content : Piece) × IsApdu AARQ input content × NamesMms content × Carries content pdu

-- AARE, [APPLICATION 1]: the association was accepted besides
abbrev pub IsAare : Piece → Piece → Type 0
IsAare input pdu = (content : Piece) × IsApdu AARE input content × IsAccepted content × NamesMms content × Carries content pdu

-- Why an AARQ is refused, by the first cause in this order.
abbrev pub IsAarqRefused : Piece → AcFault → Type 0
IsAarqRefused input Apdu = (content : Piece) → ¬ IsApdu AARQ input content
IsAarqRefused input ContextName = (content : Piece) × IsApdu AARQ input content × ¬ NamesMms content
IsAarqRefused input NoUserInformation = (content : Piece) × IsApdu AARQ input content × NamesMms content × ((pdu : Piece) → ¬ Carries content pdu)

abbrev pub IsAareRefused : Piece → AcFault → Type 0
IsAareRefused input Apdu = (content : Piece) → IsApdu AARE input content → ¬ IsAccepted content
IsAareRefused input ContextName = (content : Piece) × IsApdu AARE input content × IsAccepted content × ¬ NamesMms content
IsAareRefused input NoUserInformation = (content : Piece) × IsApdu AARE input content × IsAccepted content × NamesMms content × ((pdu : Piece) → ¬ Carries content pdu)

-- RLRQ, [APPLICATION 2], and RLRE, [APPLICATION 3], by the tag: what whole fields they have is not looked into.
abbrev pub IsRelease : ℕ → Piece → Type 0
IsRelease tag input = (content : Piece) × IsApdu tag input content

abbrev pub IsReleaseRefused : ℕ → Piece → AcFault → Type 0
IsReleaseRefused tag input f = (f ≡ Apdu) × ¬ IsRelease tag input
