-- An AARQ or AARE with exactly the fields that are written, in this order, whichever of its legal spellings it has
-- (ISO 8650-1, "ACSE-1").
use Rattle.std.specs.Prelude.{◌≡◌, ℕ, List, [], ◌∷◌}
use Rattle.ber_grammar.specs.Element.{Element, Spells, IsRow}
use Rattle.ber_grammar.specs.Content.{IsUint}
use Rattle.acse_apdu.specs.declared.codes.TheConstants.{AARQ, AARE, APPLICATION_CONTEXT_NAME, RESULT, RESULT_SOURCE_DIAGNOSTIC, SERVICE_USER, USER_INFORMATION, REASON, EXTERNAL, SINGLE_ASN1_TYPE, INTEGER, OBJECT_IDENTIFIER}
use Rattle.acse_apdu.specs.Grammar.{mms_context}
use Rattle.sv_base.specs.declared.object_ids.TheConstants.{BER}

-- the element has this tag, and these are its elements
pub record Holds (tag : ℕ) (e : Element) (es : List Element) : Type 0 where
  pub is_tag : e.tag ≡ tag
  pub row : IsRow e.content es

abbrev pub HoldsName : Element → Type 0
HoldsName field = (name : Element) × Holds APPLICATION_CONTEXT_NAME field (name ∷ []) × (name.tag ≡ OBJECT_IDENTIFIER) × (name.content ≡ mms_context)

-- The result is accepted, and the diagnostic is that of the service user, null.
abbrev pub HoldsResult : Element → Element → Type 0
HoldsResult result diagnostic = (number user null : Element) × Holds RESULT result (number ∷ []) × Holds RESULT_SOURCE_DIAGNOSTIC diagnostic (user ∷ []) × Holds SERVICE_USER user (null ∷ [])
    × (number.tag ≡ INTEGER) × IsUint number.content 0 × (null.tag ≡ INTEGER) × IsUint null.content 0

-- one EXTERNAL with the direct reference 2.1.1, this number of a context, and this value
abbrev pub HoldsExternal : Element → ℕ → List ℕ → Type 0
HoldsExternal field context pdu = (external reference number value : Element) × Holds USER_INFORMATION field (external ∷ []) × Holds EXTERNAL external (reference ∷ number ∷ value ∷ [])
    × (reference.tag ≡ OBJECT_IDENTIFIER) × (reference.content ≡ BER) × (number.tag ≡ INTEGER) × IsUint number.content context × (value.tag ≡ SINGLE_ASN1_TYPE) × (value.content ≡ pdu)

abbrev pub IsPlainAarq : List ℕ → ℕ → List ℕ → Type 0
IsPlainAarq octets context pdu = (e name information : Element) × Spells octets e × Holds AARQ e (name ∷ information ∷ []) × HoldsName name × HoldsExternal information context pdu

abbrev pub IsPlainAare : List ℕ → ℕ → List ℕ → Type 0
IsPlainAare octets context pdu = (e name result diagnostic information : Element) × Spells octets e × Holds AARE e (name ∷ result ∷ diagnostic ∷ information ∷ [])
    × HoldsName name × HoldsResult result diagnostic × HoldsExternal information context pdu

-- an RLRQ or an RLRE, by its tag, whose reason is normal
abbrev pub IsPlainRelease : ℕ → List ℕ → Type 0
IsPlainRelease tag octets = (e reason : Element) × Spells octets e × Holds tag e (reason ∷ []) × (reason.tag ≡ REASON) × IsUint reason.content 0
