-- What is short can be written.
use Rattle.std.proofs.Common.{ℕ, ◌+◌, ◌*◌, ◌<◌, ◌≤◌, ◌^◌, Bool, true, false, List, [], ◌∷◌, ◌++◌, length, arith}
use Rattle.std.specs.List.{flat_map}
use Rattle.std.proofs.lemmas.Bool.Decides.{nat_tests}
use Rattle.std.proofs.lemmas.List.{length-append}
use Rattle.ber_write.specs.Minimal.{octets_of, uint_octets}
use Rattle.ber_write.proofs.NumberLaws.{length-uint_octets}
use Rattle.ber_write.proofs.LengthLaws.{octets_few}
use Rattle.session_pres.specs.declared.codes.TheConstants.{USER_DATA, NORMAL_MODE_PARAMETERS, CONTEXT_RESULT_LIST, FULLY_ENCODED_DATA, SINGLE_ASN1_TYPE, INTEGER, SEQUENCE, SET}
use Rattle.session_pres.specs.Written.{pdv_fields, pdv_list, user_octets, length_field, field, accept_item, accept_parameters, connect_item}
use Rattle.session_pres.specs.WrittenPpdu.{set_content, ppdu, result_octets, cpa_parameters, cpa_octets, cp_head, cp_octets, connect_parameters}

pub field_length_few : (n : ℕ) → length (length_field n) ≤ 3
field_length_few n = grind (arith, nat_tests)

field_few : (code : ℕ) (value : List ℕ) → length (field code value) ≤ 4 + length value
unfolding field
field_few code value = omega (arith, length-append (length_field (length value)) value, field_length_few (length value))

fields_few : (context : ℕ) (value : List ℕ) → length (pdv_fields context value) ≤ 21 + length value
unfolding pdv_fields
fields_few context value =
    omega (arith, length-uint_octets context, octets_few INTEGER (uint_octets context) (omega arith), octets_few SINGLE_ASN1_TYPE value (omega arith), length-append (octets_of INTEGER (uint_octets context)) (octets_of SINGLE_ASN1_TYPE value))

list_few : (context : ℕ) (value : List ℕ) → length (pdv_list context value) ≤ 27 + length value
unfolding pdv_list
list_few context value = omega (arith, fields_few context value, octets_few SEQUENCE (pdv_fields context value) (omega arith))

pub user_few : (context : ℕ) (value : List ℕ) → length (user_octets context value) ≤ 33 + length value
unfolding user_octets
user_few context value = omega (arith, list_few context value, octets_few FULLY_ENCODED_DATA (pdv_list context value) (omega arith))

pub set_few : (parameters : List ℕ) → length (set_content parameters) ≤ 11 + length parameters
unfolding set_content
set_few parameters = omega (arith, octets_few NORMAL_MODE_PARAMETERS parameters (omega arith))

pub ppdu_few : (parameters : List ℕ) → length (ppdu parameters) ≤ 17 + length parameters
unfolding ppdu
ppdu_few parameters = omega (arith, octets_few SET (set_content parameters) (omega arith), set_few parameters)

results_few : (list : List Bool) → length (flat_map result_octets list) ≤ 9 * length list
results_few [] = omega arith
results_few (true ∷ list) = omega (arith, results_few list)
results_few (false ∷ list) = omega (arith, results_few list)

answer_few : (list : List Bool) (context : ℕ) (aare : List ℕ) → length (cpa_parameters list context aare) ≤ 39 + 9 * length list + length aare
unfolding cpa_parameters
answer_few list context aare =
    omega (arith, results_few list, octets_few CONTEXT_RESULT_LIST (flat_map result_octets list) (omega arith), user_few context aare, length-append (octets_of CONTEXT_RESULT_LIST (flat_map result_octets list)) (user_octets context aare))

-- ---- the conditions of the writers

pub data_short : (context : ℕ) (pdu : List ℕ) → context < 2 ^ 32 → length pdu + 64 ≤ 2 ^ 32 → length (pdv_list context pdu) < 2 ^ 32
data_short context pdu small short = omega (arith, list_few context pdu)

pub release_short : (context : ℕ) (apdu : List ℕ) → context < 2 ^ 32 → length apdu + 64 ≤ 65535 → length (field USER_DATA (user_octets context apdu)) ≤ 65535
release_short context apdu small short = omega (arith, user_few context apdu, field_few USER_DATA (user_octets context apdu))

pub accept_short : (cpa : List ℕ) → length cpa + 16 ≤ 65535 → length (accept_parameters cpa) ≤ 65535
unfolding accept_parameters
accept_short cpa short = omega (arith, field_few USER_DATA cpa, length-append accept_item (field USER_DATA cpa))

pub connect_short : (aarq : List ℕ) → length aarq + 128 ≤ 65535 → length (connect_parameters aarq) ≤ 65535
unfolding connect_parameters cp_octets
connect_short aarq short =
    omega (arith, user_few 1 aarq, ppdu_few (cp_head ++ user_octets 1 aarq), field_few USER_DATA (ppdu (cp_head ++ user_octets 1 aarq)), length-append cp_head (user_octets 1 aarq), length-append connect_item (field USER_DATA (ppdu (cp_head ++ user_octets 1 aarq))))

pub answer_short : (list : List Bool) (context : ℕ) (aare : List ℕ) → context < 2 ^ 32 → 9 * length list + length aare + 64 ≤ 2 ^ 32 → length (set_content (cpa_parameters list context aare)) < 2 ^ 32
answer_short list context aare small short = omega (arith, answer_few list context aare, set_few (cpa_parameters list context aare))

pub answer_length : (list : List Bool) (context : ℕ) (aare : List ℕ) → context < 2 ^ 32 → length (cpa_octets list context aare) ≤ 9 * length list + length aare + 64
unfolding cpa_octets
answer_length list context aare small = omega (arith, answer_few list context aare, ppdu_few (cpa_parameters list context aare))
