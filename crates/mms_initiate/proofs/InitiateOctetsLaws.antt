-- An initiate that is written is read back.
use Rattle.std.proofs.Common.{◌≡◌, ℕ, ◌%◌, ◌^◌, ◌<◌, ◌≤◌, List, [], ◌∷◌, ◌++◌, length, Ok, refl, arith}
use Rattle.std.proofs.lemmas.List.{length-append}
use Rattle.ber_grammar.specs.Element.{Element, IsRow}
use Rattle.ber_write.specs.Minimal.{octets_of, written, uint_octets}
use Rattle.ber_write.proofs.ElementLaws.{is_spelling}
use Rattle.ber_write.proofs.NumberLaws.{uint_octets-spell, length-uint_octets}
use Rattle.ber_write.proofs.LengthLaws.{octets_short}
use Rattle.ber_write.proofs.WrittenLaws.{written_more, written_last, one_octet}
use Rattle.mms_initiate.specs.declared.initiate.Initiate.{Initiate}
use Rattle.mms_elements.specs.Tagged.{IsNumber}
use Rattle.mms_initiate.specs.Initiate.{AreFields, IsInitiate}
use Rattle.mms_initiate.specs.InitiateReading.{initiate_at}
use Rattle.mms_initiate.specs.InitiateOctets.{parameter_octets, details_with, answer_services, request_services, initiate_content, accepted, proposed, initiate_answer, initiate_request}
use Rattle.mms_initiate.proofs.InitiateLaws.{accepted_again}

-- ---- how long it is

abbrev field : ℕ → ℕ → List ℕ
field tag n = octets_of tag (uint_octets n)

field_short : (tag n : ℕ) → length (field tag n) ≤ 17
field_short tag n = omega (arith, octets_short tag (uint_octets n), length-uint_octets n)

pub content_short : (i : Initiate) (details : List ℕ) → length details ≡ 22 → length (initiate_content i details) ≤ 98
content_short i details e =
    let d : length (octets_of 164 details) ≤ 30 = omega (arith, octets_short 164 details, e) in
    let c = length-append (field 131 i.nesting) (octets_of 164 details) in
    let b = length-append (field 130 i.called) (field 131 i.nesting ++ octets_of 164 details) in
    let a = length-append (field 129 i.calling) (field 130 i.called ++ (field 131 i.nesting ++ octets_of 164 details)) in
    let whole = length-append (field 128 i.size) (field 129 i.calling ++ (field 130 i.called ++ (field 131 i.nesting ++ octets_of 164 details))) in
    omega (arith, d, c, b, a, whole, field_short 128 i.size, field_short 129 i.calling, field_short 130 i.called, field_short 131 i.nesting)

-- ---- what it spells

is_number : (tag n : ℕ) → n < 2 ^ 32 → IsNumber tag (written tag (uint_octets n)) n
is_number tag n lt = (refl, ((uint_octets-spell n (omega (arith, lt))).0, lt))

abbrev details : List ℕ → List Element
details services = written 128 (1 ∷ []) ∷ written 129 (5 ∷ 241 ∷ 0 ∷ []) ∷ written 130 services ∷ []

details_row : (services : List ℕ) → length services < 2 ^ 32 → IsRow (details_with services) (details services)
details_row services small =
    let last : IsRow (octets_of 130 services) (written 130 services ∷ []) = written_last 130 services (one_octet 130 (omega arith) (λ e. omega (arith, e))) small in
    let more : IsRow (parameter_octets ++ octets_of 130 services) (written 129 (5 ∷ 241 ∷ 0 ∷ []) ∷ written 130 services ∷ []) =
    written_more 129 (5 ∷ 241 ∷ 0 ∷ []) (octets_of 130 services) (written 130 services ∷ []) (one_octet 129 (omega arith) (λ e. omega (arith, e))) (omega arith) last in
    written_more 128 (1 ∷ []) (parameter_octets ++ octets_of 130 services) (written 129 (5 ∷ 241 ∷ 0 ∷ []) ∷ written 130 services ∷ []) (one_octet 128 (omega arith) (λ e. omega (arith, e))) (omega arith) more

-- every number fits
abbrev Fits32 : Initiate → Type 0
Fits32 i = (i.size < 2 ^ 32) × (i.calling < 2 ^ 32) × (i.called < 2 ^ 32) × (i.nesting < 2 ^ 32)

abbrev fields : Initiate → List ℕ → List Element
fields i services = written 128 (uint_octets i.size) ∷ written 129 (uint_octets i.calling) ∷ written 130 (uint_octets i.called) ∷ written 131 (uint_octets i.nesting) ∷ written 164 (details_with services) ∷ []

number_row : (tag n : ℕ) (rest : List ℕ) (es : List Element) → tag < 256 → (tag % 32 ≡ 31 → ⊥) → IsRow rest es → IsRow (field tag n ++ rest) (written tag (uint_octets n) ∷ es)
number_row tag n rest es lt ne row = written_more tag (uint_octets n) rest es (one_octet tag lt ne) (omega (arith, length-uint_octets n)) row

fields_row : (i : Initiate) (services : List ℕ) → length (details_with services) < 2 ^ 32 → IsRow (initiate_content i (details_with services)) (fields i services)
fields_row i services small =
    let d : List Element = written 164 (details_with services) ∷ [] in
    let last : IsRow (octets_of 164 (details_with services)) d = written_last 164 (details_with services) (one_octet 164 (omega arith) (λ e. omega (arith, e))) small in
    let three : List ℕ = field 131 i.nesting ++ octets_of 164 (details_with services) in
    let nesting : IsRow three (written 131 (uint_octets i.nesting) ∷ d) = number_row 131 i.nesting _ d (omega arith) (λ e. omega (arith, e)) last in
    let called : IsRow (field 130 i.called ++ three) (written 130 (uint_octets i.called) ∷ written 131 (uint_octets i.nesting) ∷ d) =
    number_row 130 i.called three (written 131 (uint_octets i.nesting) ∷ d) (omega arith) (λ e. omega (arith, e)) nesting in
    let calling : IsRow (field 129 i.calling ++ (field 130 i.called ++ three)) (written 129 (uint_octets i.calling) ∷ written 130 (uint_octets i.called) ∷ written 131 (uint_octets i.nesting) ∷ d) =
    number_row 129 i.calling (field 130 i.called ++ three) (written 130 (uint_octets i.called) ∷ written 131 (uint_octets i.nesting) ∷ d) (omega arith) (λ e. omega (arith, e)) called in
    number_row 128 i.size (field 129 i.calling ++ (field 130 i.called ++ three)) (written 129 (uint_octets i.calling) ∷ written 130 (uint_octets i.called) ∷ written 131 (uint_octets i.nesting) ∷ d) (omega arith) (λ e. omega (arith, e)) calling

are_fields : (i : Initiate) (services : List ℕ) → Fits32 i → length services < 2 ^ 32 → AreFields (fields i services) i
are_fields i services fits small =
    record {
      size = written 128 (uint_octets i.size) ∷ [];
      calling = written 129 (uint_octets i.calling);
      called = written 130 (uint_octets i.called);
      nesting = written 131 (uint_octets i.nesting) ∷ [];
      detail = written 164 (details_with services);
      details = details services;
      whole = refl;
      is_size = is_number 128 i.size fits.0;
      is_calling = is_number 129 i.calling fits.1;
      is_called = is_number 130 i.called fits.2;
      is_nesting = is_number 131 i.nesting fits.3;
      is_detail = refl;
      row = details_row services small;
      are_details = (refl, refl, refl);
    }

-- twelve octets of services
initiate_spelled : (tag : ℕ) (i : Initiate) (services : List ℕ) → tag < 256 → (tag % 32 ≡ 31 → ⊥) → Fits32 i → length services ≡ 12 → length (details_with services) ≡ 22
    → IsInitiate tag (octets_of tag (initiate_content i (details_with services))) i
initiate_spelled tag i services lt ne fits few len =
    let content = initiate_content i (details_with services) in
    let small : length content < 2 ^ 32 = omega (arith, content_short i (details_with services) len) in
    (written tag content, fields i services, is_spelling tag content (one_octet tag lt ne) small, refl, fields_row i services (omega (arith, len)), are_fields i services fits (omega (arith, few)))

accepted_fits : (asked : Initiate) → Fits32 (accepted asked)
accepted_fits asked = (omega arith, omega arith, omega arith, omega arith)

pub answer_spelled : (asked : Initiate) → IsInitiate 169 (initiate_answer asked) (accepted asked)
unfolding initiate_answer
answer_spelled asked = initiate_spelled 169 (accepted asked) answer_services (omega arith) (λ e. omega (arith, e)) (accepted_fits asked) refl refl

pub answer_again : (asked : Initiate) → 1024 ≤ asked.size → initiate_at 169 (initiate_answer asked) ≡ Ok (accepted asked)
answer_again asked least = accepted_again 169 (initiate_answer asked) (accepted asked) (answer_spelled asked, omega (arith, least))

pub request_spelled : (size : ℕ) → size ≤ 65000 → IsInitiate 168 (initiate_request size) (proposed size)
unfolding initiate_request
request_spelled size most = initiate_spelled 168 (proposed size) request_services (omega arith) (λ e. omega (arith, e)) (omega (arith, most), omega arith, omega arith, omega arith) refl refl

pub request_again : (size : ℕ) → 1024 ≤ size → size ≤ 65000 → initiate_at 168 (initiate_request size) ≡ Ok (proposed size)
request_again size least most = accepted_again 168 (initiate_request size) (proposed size) (request_spelled size most, least)
