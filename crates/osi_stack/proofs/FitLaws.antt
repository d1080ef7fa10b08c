-- What is written fits.
use Rattle.std.proofs.Common.{◌≡◌, ℕ, ◌+◌, ◌^◌, ◌<◌, ◌≤◌, List, [], ◌∷◌, ◌++◌, length, Ok, arith}
use Rattle.std.proofs.lemmas.Bool.Decides.{nat_tests}
use Rattle.std.proofs.lemmas.List.{length-append}
use Rattle.ber_write.specs.Minimal.{octets_of, uint_octets}
use Rattle.ber_write.proofs.NumberLaws.{length-uint_octets}
use Rattle.ber_write.proofs.LengthLaws.{octets_few}
use Rattle.session_pres.specs.Plain.{Asked, cp_from}
use Rattle.session_pres.specs.Written.{pdv_fields, pdv_list, user_octets, length_field, field}
use Rattle.session_pres.specs.WrittenPpdu.{connect_parameters}
use Rattle.session_pres.proofs.AnswerLaws.{fits_anyone}
use Rattle.session_pres.proofs.FitLaws.{connect_short, user_few, field_length_few}
use Rattle.acse_apdu.specs.Written.{name_field, result_fields, external_content, information_content, aarq_content, aare_content, aarq_octets, aare_octets, release_octets}
use Rattle.mms_initiate.specs.declared.initiate.Initiate.{Initiate}
use Rattle.mms_initiate.specs.InitiateOctets.{initiate_content, answer_details, request_details, accepted, proposed, initiate_answer, initiate_request}
use Rattle.osi_stack.specs.Called.{CanBeAccepted, aare_for}

pub pdv_fits : (context : ℕ) (pdu : List ℕ) → length pdu ≤ 4294967000 → length (pdv_list context pdu) < 2 ^ 32
unfolding pdv_list pdv_fields
pdv_fits context pdu le =
    omega (
      arith,
      octets_few 48 (octets_of 2 (uint_octets context) ++ octets_of 160 pdu) (omega arith),
      octets_few 2 (uint_octets context) (omega arith),
      octets_few 160 pdu (omega arith),
      length-uint_octets context,
      length-append (octets_of 2 (uint_octets context)) (octets_of 160 pdu),
    )

-- ---- an initiate

number_few : (tag n : ℕ) → tag < 256 → length (octets_of tag (uint_octets n)) ≤ 15
number_few tag n lt = omega (arith, octets_few tag (uint_octets n) lt, length-uint_octets n)

initiate_few : (i : Initiate) (details : List ℕ) → length (initiate_content i details) ≤ 66 + length details
initiate_few i details =
    let size = octets_of 128 (uint_octets i.size) in
    let calling = octets_of 129 (uint_octets i.calling) in
    let called = octets_of 130 (uint_octets i.called) in
    let nesting = octets_of 131 (uint_octets i.nesting) in
    let detail = octets_of 164 details in
    omega (
      arith,
      number_few 128 i.size (omega arith),
      number_few 129 i.calling (omega arith),
      number_few 130 i.called (omega arith),
      number_few 131 i.nesting (omega arith),
      octets_few 164 details (omega arith),
      length-append size (calling ++ (called ++ (nesting ++ detail))),
      length-append calling (called ++ (nesting ++ detail)),
      length-append called (nesting ++ detail),
      length-append nesting detail,
    )

answer_few : (asked : Initiate) → length (initiate_answer asked) ≤ 128
unfolding initiate_answer
answer_few asked = omega (arith, octets_few 169 (initiate_content (accepted asked) answer_details) (omega arith), initiate_few (accepted asked) answer_details)

request_few : (size : ℕ) → length (initiate_request size) ≤ 128
unfolding initiate_request
request_few size = omega (arith, octets_few 168 (initiate_content (proposed size) request_details) (omega arith), initiate_few (proposed size) request_details)

-- ---- an APDU that carries it

information_few : (context : ℕ) (pdu : List ℕ) → length (octets_of 190 (information_content context pdu)) ≤ 64 + length pdu
information_few context pdu =
    omega (
      arith,
      octets_few 190 (information_content context pdu) (omega arith),
      octets_few 40 (external_content context pdu) (omega arith),
      octets_few 160 pdu (omega arith),
      number_few 2 context (omega arith),
      length-append (octets_of 6 (81 ∷ 1 ∷ [])) (octets_of 2 (uint_octets context) ++ octets_of 160 pdu),
      length-append (octets_of 2 (uint_octets context)) (octets_of 160 pdu),
    )

aare_few : (context : ℕ) (pdu : List ℕ) → length (aare_content context pdu) ≤ 128 + length pdu
aare_few context pdu =
    let information = octets_of 190 (information_content context pdu) in
    omega (arith, information_few context pdu, length-append name_field (result_fields ++ information), length-append result_fields information)

aarq_few : (context : ℕ) (pdu : List ℕ) → length (aarq_content context pdu) ≤ 128 + length pdu
aarq_few context pdu =
    let information = octets_of 190 (information_content context pdu) in
    omega (arith, information_few context pdu, length-append name_field information)

pub aare_fits : (context : ℕ) (asked : Initiate) → length (aare_content context (initiate_answer asked)) < 2 ^ 32
aare_fits context asked = omega (arith, aare_few context (initiate_answer asked), answer_few asked)

pub aarq_fits : (context size : ℕ) → length (aarq_content context (initiate_request size)) < 2 ^ 32
aarq_fits context size = omega (arith, aarq_few context (initiate_request size), request_few size)

pub aare_short : (context : ℕ) (asked : Initiate) → length (aare_octets context (initiate_answer asked)) ≤ 16384
unfolding aare_octets
aare_short context asked = omega (arith, octets_few 97 (aare_content context (initiate_answer asked)) (omega arith), aare_few context (initiate_answer asked), answer_few asked)

pub can_accept : (user : List ℕ) (cp : Asked) (asked : Initiate) → cp_from user ≡ Ok cp → length user ≤ 70000 → CanBeAccepted cp asked
can_accept user cp asked e few =
    let fits = fits_anyone user cp (aare_for cp asked) e few (aare_short cp.mms asked) in
    record { content = fits.0; parameters = fits.1 }

pub connect_fits : (size : ℕ) → length (connect_parameters (aarq_octets 3 (initiate_request size))) ≤ 65535
unfolding aarq_octets
connect_fits size =
    connect_short (octets_of 96 (aarq_content 3 (initiate_request size))) (omega (arith, octets_few 96 (aarq_content 3 (initiate_request size)) (omega arith), aarq_few 3 (initiate_request size), request_few size))

-- ---- a release

release_few : (tag : ℕ) → length (release_octets tag) ≤ 16
release_few tag = grind (arith, nat_tests)

pub release_fits : (context tag : ℕ) → length (field 193 (user_octets context (release_octets tag))) ≤ 65535
unfolding field
release_fits context tag =
    let user = user_octets context (release_octets tag) in
    omega (arith, user_few context (release_octets tag), field_length_few (length user), length-append (length_field (length user)) user, release_few tag)
