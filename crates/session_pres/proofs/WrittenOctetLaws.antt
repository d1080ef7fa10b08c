-- Data that are written are octets.
use Rattle.std.proofs.Common.{ℕ, ◌/◌, ◌%◌, ◌^◌, ◌<◌, ltb, List, [], ◌∷◌, ◌++◌, length, arith}
use Rattle.std.specs.Prelude.{pos}
use Rattle.std.proofs.lemmas.Bool.{ltb-true, lt-ltb, cond_both}
use Rattle.std.proofs.lemmas.List.{length-append}
use Rattle.ber_grammar.specs.Octets.{IsBytes}
use Rattle.ber_grammar.proofs.OctetLaws.{IsBytes-cons, IsBytes-append}
use Rattle.ber_write.specs.Minimal.{length_octets, octets_of, uint_octets, int_octets}
use Rattle.ber_write.proofs.NumberLaws.{int_octets-fit}
use Rattle.ber_write.proofs.LengthLaws.{octets_longer}
use Rattle.session_pres.specs.Written.{pdv_fields, pdv_list, user_octets, data_spdu}

none_fits : IsBytes []
none_fits = λ i. omega arith

length_fits : (n : ℕ) → n < 2 ^ 32 → IsBytes (length_octets n)
length_fits n small =
    cond_both (ltb n 128) (n ∷ []) _ IsBytes (λ e. IsBytes-cons n [] (omega (arith, ltb-true n 128 e)) none_fits) (λ e.
    cond_both (ltb n 256) (129 ∷ n ∷ []) _ IsBytes (λ d. IsBytes-cons 129 (n ∷ []) (omega arith) (IsBytes-cons n [] (ltb-true n 256 d) none_fits)) (λ d.
    cond_both (ltb n 65536) (130 ∷ n / 256 ∷ n % 256 ∷ []) _ IsBytes
    (λ c. IsBytes-cons 130 (n / 256 ∷ n % 256 ∷ []) (omega arith) (IsBytes-cons (n / 256) (n % 256 ∷ []) (omega (arith, ltb-true n 65536 c)) (IsBytes-cons (n % 256) [] (omega arith) none_fits))) (λ c.
    cond_both (ltb n 16777216) (131 ∷ n / 65536 ∷ n / 256 % 256 ∷ n % 256 ∷ []) _ IsBytes
    (λ b. IsBytes-cons 131 (n / 65536 ∷ n / 256 % 256 ∷ n % 256 ∷ []) (omega arith) (IsBytes-cons (n / 65536) (n / 256 % 256 ∷ n % 256 ∷ []) (omega (arith, ltb-true n 16777216 b)) (IsBytes-cons (n / 256 % 256) (n % 256 ∷ []) (omega arith) (IsBytes-cons (n % 256) [] (omega arith) none_fits))))
    (λ b. IsBytes-cons 132 (n / 16777216 ∷ n / 65536 % 256 ∷ n / 256 % 256 ∷ n % 256 ∷ []) (omega arith) (IsBytes-cons (n / 16777216) (n / 65536 % 256 ∷ n / 256 % 256 ∷ n % 256 ∷ []) (omega (arith, small)) (IsBytes-cons (n / 65536 % 256) (n / 256 % 256 ∷ n % 256 ∷ []) (omega arith) (IsBytes-cons (n / 256 % 256) (n % 256 ∷ []) (omega arith) (IsBytes-cons (n % 256) [] (omega arith) none_fits))))))))

element_fits : (tag : ℕ) (content : List ℕ) → tag < 256 → length content < 2 ^ 32 → IsBytes content → IsBytes (octets_of tag content)
element_fits tag content lt small fits =
    rw (lt-ltb tag 256 lt) (IsBytes-cons tag (length_octets (length content) ++ content) lt (IsBytes-append (length_octets (length content)) content (length_fits (length content) small) fits))

number_fits : (n : ℕ) → IsBytes (uint_octets n)
unfolding uint_octets int_octets
number_fits n = int_octets-fit (pos n)

fields_fit : (context : ℕ) (pdu : List ℕ) → length (pdv_list context pdu) < 2 ^ 32 → IsBytes pdu → IsBytes (pdv_fields context pdu) × (length (pdv_fields context pdu) < 2 ^ 32)
unfolding pdv_list pdv_fields
fields_fit context pdu small fits =
    let number = octets_of 2 (uint_octets context) in
    let value = octets_of 160 pdu in
    let all : length (number ++ value) < 2 ^ 32 = omega (arith, small, octets_longer 48 (number ++ value)) in
    let inner : length pdu < 2 ^ 32 = omega (arith, all, length-append number value, octets_longer 160 pdu) in
    let few : length (uint_octets context) < 2 ^ 32 = omega (arith, all, length-append number value, octets_longer 2 (uint_octets context)) in
    (IsBytes-append number value (element_fits 2 (uint_octets context) (omega arith) few (number_fits context)) (element_fits 160 pdu (omega arith) inner fits), all)

list_fits : (context : ℕ) (pdu : List ℕ) → length (pdv_list context pdu) < 2 ^ 32 → IsBytes pdu → IsBytes (pdv_list context pdu)
unfolding pdv_list
list_fits context pdu small fits = let f = fields_fit context pdu small fits in element_fits 48 (pdv_fields context pdu) (omega arith) f.1 f.0

user_fits : (context : ℕ) (pdu : List ℕ) → length (pdv_list context pdu) < 2 ^ 32 → IsBytes pdu → IsBytes (user_octets context pdu)
unfolding user_octets
user_fits context pdu small fits = element_fits 97 (pdv_list context pdu) (omega arith) small (list_fits context pdu small fits)

pub data_octets : (context : ℕ) (pdu : List ℕ) → length (pdv_list context pdu) < 2 ^ 32 → IsBytes pdu → IsBytes (data_spdu context pdu)
unfolding data_spdu
data_octets context pdu small fits =
    let user : List ℕ = user_octets context pdu in
    IsBytes-cons 1 (0 ∷ 1 ∷ 0 ∷ user) (omega arith) (IsBytes-cons 0 (1 ∷ 0 ∷ user) (omega arith) (IsBytes-cons 1 (0 ∷ user) (omega arith) (IsBytes-cons 0 user (omega arith) (user_fits context pdu small fits))))
