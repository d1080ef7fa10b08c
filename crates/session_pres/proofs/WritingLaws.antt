-- What is written, part by part.
use Rattle.std.proofs.Common.{◌≡◌, ℕ, zero, suc, ◌+◌, ◌<◌, ◌≤◌, ◌^◌, Bool, false, List, [], ◌∷◌, ◌++◌, length, take, Option, Result, Ok, Err, refl, sym, ap, ◌∙◌, append_assoc, append-nil, arith}
use Rattle.std.specs.Prelude.{OnOk, slice_get, unwrap_or}
use Rattle.std.specs.List.{flat_map}
use Rattle.std.specs.declared.alloc.AllocError.{AllocError}
use Rattle.std.proofs.lemmas.List.{length-append}
use Rattle.ber_write.specs.Minimal.{head_octets, octets_of, uint_octets, element_size}
use Rattle.ber_write.proofs.LengthLaws.{octets_longer, headed, length_of_element}
use Rattle.session_pres.specs.declared.codes.TheConstants.{USER_DATA, NORMAL_MODE_PARAMETERS, CONTEXT_RESULT_LIST, FULLY_ENCODED_DATA, SINGLE_ASN1_TYPE, INTEGER, SEQUENCE, SET}
use Rattle.session_pres.specs.Written.{pdv_fields, pdv_list, user_octets, length_field, field, accept_item, accept_parameters, connect_item}
use Rattle.session_pres.specs.WrittenPpdu.{normal_mode, set_content, ppdu, result_octets, cpa_parameters, cp_head, cp_octets, connect_parameters}

regroup : (old a b c d : List ℕ) → (((old ++ a) ++ b) ++ c) ++ d ≡ old ++ (a ++ (b ++ (c ++ d)))
regroup old a b c d = simp append_assoc

user_is : (context : ℕ) (value : List ℕ) (len total : ℕ) → len ≡ length (pdv_fields context value) → total ≡ element_size len
    → head_octets FULLY_ENCODED_DATA total ++ (head_octets SEQUENCE len ++ (octets_of INTEGER (uint_octets context) ++ octets_of SINGLE_ASN1_TYPE value)) ≡ user_octets context value
unfolding user_octets pdv_list pdv_fields
user_is context value len total p q =
    let count : total ≡ length (pdv_list context value) = q ∙ ap element_size p ∙ sym (length_of_element SEQUENCE (pdv_fields context value) (omega arith)) in
    rw (count, p) (ap (λ (x : List ℕ). head_octets FULLY_ENCODED_DATA (length (pdv_list context value)) ++ x) (headed SEQUENCE (length (pdv_fields context value)) (pdv_fields context value) refl) ∙ headed FULLY_ENCODED_DATA (length (pdv_list context value)) (pdv_list context value) refl)

pub user_written : {A : Type 0} (r : Result A AllocError) (old a b c new value : List ℕ) (n context len total : ℕ) → a ≡ old ++ head_octets FULLY_ENCODED_DATA total → b ≡ a ++ head_octets SEQUENCE len → c ≡ b ++ octets_of INTEGER (uint_octets n)
    → n ≡ context → len ≡ length (pdv_fields context value) → total ≡ element_size len → OnOk r (new ≡ c ++ octets_of SINGLE_ASN1_TYPE value) → OnOk r (new ≡ old ++ user_octets context value)
user_written (Ok x) old a b c new value n context len total p q s same count all h =
    h ∙ rw (s, q, p, same) (regroup old (head_octets FULLY_ENCODED_DATA total) (head_octets SEQUENCE len) (octets_of INTEGER (uint_octets context)) (octets_of SINGLE_ASN1_TYPE value) ∙ ap (λ (x : List ℕ). old ++ x) (user_is context value len total count all))
user_written (Err f) old a b c new value n context len total p q s same count all h = h

-- ---- one result more

pub flat-one_more : (bs : List Bool) (i : ℕ) → i < length bs → flat_map result_octets (take (suc i) bs) ≡ flat_map result_octets (take i bs) ++ result_octets (unwrap_or (slice_get bs i) false)
flat-one_more [] i lt = absurd (omega (arith, lt))
flat-one_more (c ∷ bs) zero lt = append-nil (result_octets c)
flat-one_more (c ∷ bs) (suc i) lt = ap (λ (x : List ℕ). result_octets c ++ x) (flat-one_more bs i (omega (arith, lt))) ∙ sym (append_assoc (result_octets c) (flat_map result_octets (take i bs)) (result_octets (unwrap_or (slice_get bs i) false)))

-- ---- the parts fit where the whole does

pub field_within : (code : ℕ) (value : List ℕ) → length value ≤ length (field code value)
unfolding field
field_within code value = omega (arith, length-append (length_field (length value)) value)

user_within : (context : ℕ) (value : List ℕ) → length (pdv_list context value) ≤ length (user_octets context value)
unfolding user_octets
user_within context value = octets_longer FULLY_ENCODED_DATA (pdv_list context value)

pub field_fits : (code : ℕ) (value : List ℕ) → length (field code value) ≤ 65535 → length value ≤ 65535
field_fits code value fits = omega (arith, field_within code value)

pub release_fits : (context : ℕ) (value : List ℕ) → length (field USER_DATA (user_octets context value)) ≤ 65535 → length (pdv_list context value) < 2 ^ 32
release_fits context value fits = omega (arith, field_within USER_DATA (user_octets context value), user_within context value)

pub accept_fits : (cpa : List ℕ) → length (accept_parameters cpa) ≤ 65535 → length cpa ≤ 65535
unfolding accept_parameters
accept_fits cpa fits = omega (arith, length-append accept_item (field USER_DATA cpa), field_within USER_DATA cpa)

ppdu_within : (parameters : List ℕ) → length (set_content parameters) ≤ length (ppdu parameters)
unfolding ppdu
ppdu_within parameters = octets_longer SET (set_content parameters)

set_within : (parameters : List ℕ) → length parameters ≤ length (set_content parameters)
unfolding set_content
set_within parameters = omega (arith, length-append normal_mode (octets_of NORMAL_MODE_PARAMETERS parameters), octets_longer NORMAL_MODE_PARAMETERS parameters)

pub connect_fits : (aarq : List ℕ) → length (connect_parameters aarq) ≤ 65535 → (length (ppdu (cp_head ++ user_octets 1 aarq)) ≤ 65535) × (length (set_content (cp_head ++ user_octets 1 aarq)) < 2 ^ 32) × (length (pdv_list 1 aarq) < 2 ^ 32) × (length (connect_item ++ field USER_DATA (ppdu (cp_head ++ user_octets 1 aarq))) ≤ 65535)
unfolding connect_parameters cp_octets
connect_fits aarq fits =
    let user = cp_head ++ user_octets 1 aarq in
    let cp : length (ppdu user) ≤ 65535 = omega (arith, length-append connect_item (field USER_DATA (ppdu user)), field_within USER_DATA (ppdu user)) in
    (cp, omega (arith, cp, ppdu_within user), omega (arith, cp, ppdu_within user, set_within user, length-append cp_head (user_octets 1 aarq), user_within 1 aarq), fits)

pub cpa_fits : (list : List Bool) (context : ℕ) (aare : List ℕ) → length (set_content (cpa_parameters list context aare)) < 2 ^ 32 → (length (flat_map result_octets list) < 2 ^ 32) × (length (pdv_list context aare) < 2 ^ 32)
unfolding cpa_parameters
cpa_fits list context aare fits =
    let parts = length-append (octets_of CONTEXT_RESULT_LIST (flat_map result_octets list)) (user_octets context aare) in
    let whole = set_within (octets_of CONTEXT_RESULT_LIST (flat_map result_octets list) ++ user_octets context aare) in
    (omega (arith, fits, whole, parts, octets_longer CONTEXT_RESULT_LIST (flat_map result_octets list)), omega (arith, fits, whole, parts, user_within context aare))

pub pdv_list-length : (context : ℕ) (value : List ℕ) → length (pdv_list context value) ≡ element_size (length (pdv_fields context value))
unfolding pdv_list
pdv_list-length context value = length_of_element SEQUENCE (pdv_fields context value) (omega arith)

pub value_fits : (context : ℕ) (value : List ℕ) → length (pdv_list context value) < 2 ^ 32 → length value < 2 ^ 32
unfolding pdv_list pdv_fields
value_fits context value fits = omega (arith, fits, octets_longer SEQUENCE (octets_of INTEGER (uint_octets context) ++ octets_of SINGLE_ASN1_TYPE value), length-append (octets_of INTEGER (uint_octets context)) (octets_of SINGLE_ASN1_TYPE value), octets_longer SINGLE_ASN1_TYPE value)

-- the loop over the results
pub results_more : (bs : List Bool) (i : ℕ) (found : Option Bool) (b : Bool) (before old new : List ℕ) (octets : List ℕ) → i < length bs → old ≡ before ++ flat_map result_octets (take i bs)
    → found ≡ slice_get bs i → b ≡ unwrap_or found false → octets ≡ result_octets b → new ≡ old ++ octets → new ≡ before ++ flat_map result_octets (take (i + 1) bs)
results_more bs i found b before old new octets lt h at is said all =
    let one : suc i ≡ i + 1 = omega arith in
    all ∙ rw (h, said, is, at) (append_assoc before (flat_map result_octets (take i bs)) (result_octets (unwrap_or (slice_get bs i) false))
    ∙ ap (λ (x : List ℕ). before ++ x) (sym (flat-one_more bs i lt)) ∙ ap (λ (n : ℕ). before ++ flat_map result_octets (take n bs)) one)
