-- What is written: each SPDU and PPDU in one form.
use Rattle.std.specs.Prelude.{ℕ, ◌/◌, ◌%◌, List, [], ◌∷◌, ◌++◌, length, nat_lt, if◌then◌else◌}
use Rattle.ber_grammar.specs.Element.{Element, IsRow}
use Rattle.ber_write.specs.Minimal.{octets_of, uint_octets}
use Rattle.session_pres.specs.declared.codes.TheConstants.{ACCEPT, GIVE_TOKENS, DATA_TRANSFER, USER_DATA, FULLY_ENCODED_DATA, SINGLE_ASN1_TYPE, INTEGER, SEQUENCE}

-- ---- user data (ISO 8823-1, "User-data")

-- the fields of a PDV: the context's number, and the value in [0]
unfoldable pub pdv_fields : ℕ → List ℕ → List ℕ
pdv_fields context value = octets_of INTEGER (uint_octets context) ++ octets_of SINGLE_ASN1_TYPE value

unfoldable pub pdv_list : ℕ → List ℕ → List ℕ
pdv_list context value = octets_of SEQUENCE (pdv_fields context value)

unfoldable pub user_octets : ℕ → List ℕ → List ℕ
user_octets context value = octets_of FULLY_ENCODED_DATA (pdv_list context value)

-- ---- SPDUs (ISO 8327-1, "Structure of SPDUs")

-- a length up to 254 in one octet, one up to 65535 in three
abbrev pub length_field : ℕ → List ℕ
length_field n = if nat_lt n 255 then n ∷ [] else 255 ∷ n / 256 ∷ n % 256 ∷ []

-- a parameter or an SPDU: its code, the length, and its value or its parameters
unfoldable pub field : ℕ → List ℕ → List ℕ
field code value = code ∷ (length_field (length value) ++ value)

-- DATA TRANSFER after GIVE TOKENS
unfoldable pub data_spdu : ℕ → List ℕ → List ℕ
data_spdu context pdu = (GIVE_TOKENS ∷ 0 ∷ DATA_TRANSFER ∷ 0 ∷ []) ++ user_octets context pdu

-- an SPDU whose one parameter is user data: a FINISH or a DISCONNECT
unfoldable pub release_spdu : ℕ → ℕ → List ℕ → List ℕ
release_spdu code context apdu = field code (field USER_DATA (user_octets context apdu))

-- The connect/accept item: no protocol options, version 2; and the session requirements: duplex.
abbrev pub accept_item : List ℕ
accept_item = 0x05 ∷ 0x06 ∷ 0x13 ∷ 0x01 ∷ 0x00 ∷ 0x16 ∷ 0x01 ∷ 0x02 ∷ 0x14 ∷ 0x02 ∷ 0x00 ∷ 0x02 ∷ []

unfoldable pub accept_parameters : List ℕ → List ℕ
accept_parameters cpa = accept_item ++ field USER_DATA cpa

unfoldable pub accept_spdu : List ℕ → List ℕ
accept_spdu cpa = field ACCEPT (accept_parameters cpa)

-- the same, and the calling and the called session selector
abbrev pub connect_item : List ℕ
connect_item = 0x05 ∷ 0x06 ∷ 0x13 ∷ 0x01 ∷ 0x00 ∷ 0x16 ∷ 0x01 ∷ 0x02 ∷ 0x14 ∷ 0x02 ∷ 0x00 ∷ 0x02 ∷ 0x33 ∷ 0x02 ∷ 0x00 ∷ 0x01 ∷ 0x34 ∷ 0x02 ∷ 0x00 ∷ 0x01 ∷ []

-- one whole element, as each APDU is
abbrev pub IsOneElement : List ℕ → Type 0
IsOneElement octets = (e : Element) × IsRow octets (e ∷ [])
