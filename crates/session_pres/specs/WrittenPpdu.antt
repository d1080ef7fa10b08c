-- The PPDUs that are written (ISO 8823-1, "CP-type" and "CPA-PPDU").
use Rattle.std.specs.Prelude.{ℕ, Bool, true, false, List, [], ◌∷◌, ◌++◌}
use Rattle.std.specs.List.{flat_map}
use Rattle.ber_write.specs.Minimal.{octets_of}
use Rattle.session_pres.specs.declared.codes.TheConstants.{CONNECT, USER_DATA, NORMAL_MODE_PARAMETERS, CONTEXT_RESULT_LIST, SET}
use Rattle.session_pres.specs.Written.{user_octets, field, connect_item}

abbrev pub normal_mode : List ℕ
normal_mode = 0xa0 ∷ 0x03 ∷ 0x80 ∷ 0x01 ∷ 0x01 ∷ []

unfoldable pub set_content : List ℕ → List ℕ
set_content parameters = normal_mode ++ octets_of NORMAL_MODE_PARAMETERS parameters

unfoldable pub ppdu : List ℕ → List ℕ
ppdu parameters = octets_of SET (set_content parameters)

-- a context is accepted with BER, or refused by the user
abbrev pub result_octets : Bool → List ℕ
result_octets true = 0x30 ∷ 0x07 ∷ 0x80 ∷ 0x01 ∷ 0x00 ∷ 0x81 ∷ 0x02 ∷ 0x51 ∷ 0x01 ∷ []
result_octets false = 0x30 ∷ 0x03 ∷ 0x80 ∷ 0x01 ∷ 0x01 ∷ []

unfoldable pub cpa_parameters : List Bool → ℕ → List ℕ → List ℕ
cpa_parameters list context aare = octets_of CONTEXT_RESULT_LIST (flat_map result_octets list) ++ user_octets context aare

unfoldable pub cpa_octets : List Bool → ℕ → List ℕ → List ℕ
cpa_octets list context aare = ppdu (cpa_parameters list context aare)

-- both selectors are 1, and the two contexts are offered with BER: 1 of ACSE and 3 of MMS
abbrev pub cp_head : List ℕ
cp_head = 0x81 ∷ 0x04 ∷ 0x00 ∷ 0x00 ∷ 0x00 ∷ 0x01 ∷ 0x82 ∷ 0x04 ∷ 0x00 ∷ 0x00 ∷ 0x00 ∷ 0x01
    ∷ 0xa4 ∷ 0x23 ∷ 0x30 ∷ 0x0f ∷ 0x02 ∷ 0x01 ∷ 0x01 ∷ 0x06 ∷ 0x04 ∷ 0x52 ∷ 0x01 ∷ 0x00 ∷ 0x01 ∷ 0x30 ∷ 0x04 ∷ 0x06 ∷ 0x02 ∷ 0x51 ∷ 0x01
    ∷ 0x30 ∷ 0x10 ∷ 0x02 ∷ 0x01 ∷ 0x03 ∷ 0x06 ∷ 0x05 ∷ 0x28 ∷ 0xca ∷ 0x22 ∷ 0x02 ∷ 0x01 ∷ 0x30 ∷ 0x04 ∷ 0x06 ∷ 0x02 ∷ 0x51 ∷ 0x01 ∷ []

unfoldable pub cp_octets : List ℕ → List ℕ
cp_octets aarq = ppdu (cp_head ++ user_octets 1 aarq)

unfoldable pub connect_parameters : List ℕ → List ℕ
connect_parameters aarq = connect_item ++ field USER_DATA (cp_octets aarq)

unfoldable pub connect_spdu : List ℕ → List ℕ
connect_spdu aarq = field CONNECT (connect_parameters aarq)
