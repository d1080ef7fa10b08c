-- What a server sends is read back by the client.
use Rattle.std.proofs.Common.{◌≡◌, ℕ, ◌+◌, ◌%◌, ◌^◌, ◌<◌, ◌≤◌, ◌||◌, cond, ltb, eqb, List, [], ◌∷◌, ◌++◌, length, Option, Some, None, refl, arith}
use Rattle.std.specs.Prelude.{IfSome}
use Rattle.std.proofs.lemmas.Bool.{lt-ltb, le-ltb, ltb-true, ltb-false, cond_both}
use Rattle.std.proofs.lemmas.List.{length-append}
use Rattle.ber_write.specs.Minimal.{octets_of, written, CanBeTag, uint_octets}
use Rattle.ber_write.proofs.ElementLaws.{is_spelling}
use Rattle.ber_write.proofs.NumberLaws.{uint_octets-spell, length-uint_octets, uint_short}
use Rattle.ber_write.proofs.LengthLaws.{octets_short, octets_longer}
use Rattle.ber_write.proofs.WrittenLaws.{written_last, one_octet}
use Rattle.mms_elements.specs.Tagged.{IsNumbered}
use Rattle.mms_pdu.specs.Answer.{IsAnswerBody}
use Rattle.mms_pdu.specs.Reply.{answer, error, reject, concluded, information, IsOctet, IsServiceError, IsReason, IsReply}
use Rattle.mms_elements.specs.Reports.{IsReport}
use Rattle.mms_pdu.specs.ReplyOctets.{answer_content, answer_octets, class_tag, error_octets, reason_tag, reason_code, reject_octets}

-- ---- numbers

-- the number under a tag of one octet in front
pub numbered_written : (tag n : ℕ) (rest : List ℕ) → tag < 256 → (tag % 32 ≡ 31 → ⊥) → n < 2 ^ 32 → IsNumbered tag (octets_of tag (uint_octets n) ++ rest) n rest
numbered_written tag n rest lt ne small =
    (written tag (uint_octets n), (octets_of tag (uint_octets n), is_spelling tag (uint_octets n) (one_octet tag lt ne) (uint_short n), refl), (refl, ((uint_octets-spell n (omega (arith, small))).0, small)))

octet_written : (n : ℕ) → n < 256 → IsOctet (uint_octets n) n
octet_written n lt = ((uint_octets-spell n (omega (arith, lt))).0, lt)

-- ---- an answer

pub answer_spelled : (invoke tag : ℕ) (body : List ℕ) → invoke < 2 ^ 32 → CanBeTag tag → IsAnswerBody tag body → length (answer_octets invoke tag body) < 2 ^ 32 → IsReply (answer_octets invoke tag body) (answer invoke tag body)
unfolding answer_octets
answer_spelled invoke tag body small can form fits =
    let content = answer_content invoke tag body in
    let all : length content < 2 ^ 32 = omega (arith, fits, octets_longer 161 content) in
    let service : length (octets_of tag body) < 2 ^ 32 = omega (arith, all, length-append (octets_of 2 (uint_octets invoke)) (octets_of tag body)) in
    let inner : length body < 2 ^ 32 = omega (arith, service, octets_longer tag body) in (
      written 161 content,
      is_spelling 161 content (one_octet 161 (omega arith) (λ e. omega (arith, e))) all,
      (refl, octets_of tag body, numbered_written 2 invoke (octets_of tag body) (omega arith) (λ e. omega (arith, e)) small, (written tag body, is_spelling tag body can inner, refl, refl, form)),
    )

-- ---- an error

low_can : (class : ℕ) → class < 31 → CanBeTag (128 + class)
low_can class lt = one_octet (128 + class) (omega (arith, lt)) (λ e. omega (arith, e, lt))

middle_can : (t : ℕ) → 40735 ≤ t → t ≤ 40831 → CanBeTag t
middle_can t least most = rw (le-ltb t 256 (omega (arith, least)), lt-ltb t 65536 (omega (arith, most))) (omega (arith, least, most), omega (arith, least, most), omega arith)

high_can : (t : ℕ) → 10453248 ≤ t → t ≤ 10453375 → CanBeTag t
high_can t least most = rw (le-ltb t 256 (omega (arith, least)), le-ltb t 65536 (omega (arith, least))) (omega (arith, least, most), omega (arith, least, most), omega (arith, least, most), omega (arith, least, most))

pub class_can : (class : ℕ) → class < 256 → CanBeTag (class_tag class)
class_can class small =
    cond_both (ltb class 31) (128 + class) (cond (ltb class 128) (40704 + class) (10453120 + class)) CanBeTag
    (λ e. low_can class (ltb-true class 31 e))
    (λ e. cond_both (ltb class 128) (40704 + class) (10453120 + class) CanBeTag
    (λ d. middle_can (40704 + class) (omega (arith, ltb-false class 31 e)) (omega (arith, ltb-true class 128 d)))
    (λ d. high_can (10453120 + class) (omega (arith, ltb-false class 128 d)) (omega (arith, small))))

failure_spelled : (class code : ℕ) → class < 256 → code < 256 → IsServiceError (octets_of 162 (octets_of 160 (octets_of (class_tag class) (uint_octets code)))) class code
failure_spelled class code small few =
    let f : List ℕ = octets_of (class_tag class) (uint_octets code) in
    let k : List ℕ = octets_of 160 f in
    let one = octets_short (class_tag class) (uint_octets code) in
    let two = octets_short 160 f in (
      written 162 k,
      written 160 f,
      written (class_tag class) (uint_octets code),
      is_spelling 162 k (one_octet 162 (omega arith) (λ e. omega (arith, e))) (omega (arith, one, two, length-uint_octets code)),
      refl,
      written_last 160 f (one_octet 160 (omega arith) (λ e. omega (arith, e))) (omega (arith, one, length-uint_octets code)),
      refl,
      written_last (class_tag class) (uint_octets code) (class_can class small) (uint_short code),
      small,
      refl,
      octet_written code few,
    )

pub error_spelled : (invoke class code : ℕ) → invoke < 2 ^ 32 → class < 256 → code < 256 → IsReply (error_octets invoke class code) (error invoke class code)
unfolding error_octets
error_spelled invoke class code small low few =
    let f : List ℕ = octets_of (class_tag class) (uint_octets code) in
    let rest : List ℕ = octets_of 162 (octets_of 160 f) in
    let content : List ℕ = octets_of 128 (uint_octets invoke) ++ rest in
    let one = octets_short (class_tag class) (uint_octets code) in
    let two = octets_short 160 f in
    let three = octets_short 162 (octets_of 160 f) in
    let four = octets_short 128 (uint_octets invoke) in
    let all : length content < 2 ^ 32 = omega (arith, one, two, three, four, length-uint_octets code, length-uint_octets invoke, length-append (octets_of 128 (uint_octets invoke)) rest) in (
      written 162 content,
      is_spelling 162 content (one_octet 162 (omega arith) (λ e. omega (arith, e))) all,
      (refl, rest, numbered_written 128 invoke rest (omega arith) (λ e. omega (arith, e)) small, failure_spelled class code low few),
    )

-- ---- a reject

pub reason_bounds : (refusal : ℕ) → (129 ≤ reason_tag refusal) × (reason_tag refusal ≤ 133)
reason_bounds refusal = cond_both (eqb refusal 2 || eqb refusal 3) 129 133 (λ t. (129 ≤ t) × (t ≤ 133)) (λ e. (omega arith, omega arith)) (λ e. (omega arith, omega arith))

pub code_bound : (refusal : ℕ) → reason_code refusal < 256
code_bound refusal = cond_both (eqb refusal 1) 0 (cond (eqb refusal 3) 4 (cond (eqb refusal 2) 1 1)) (λ t. t < 256) (λ e. omega arith)
    (λ e. cond_both (eqb refusal 3) 4 (cond (eqb refusal 2) 1 1) (λ t. t < 256) (λ d. omega arith) (λ d. cond_both (eqb refusal 2) 1 1 (λ t. t < 256) (λ f. omega arith) (λ f. omega arith)))

abbrev reason_octets : ℕ → List ℕ
reason_octets refusal = octets_of (reason_tag refusal) (uint_octets (reason_code refusal))

reason_spelled : (refusal : ℕ) → IsReason (reason_octets refusal) (reason_code refusal)
reason_spelled refusal =
    let b = reason_bounds refusal in (
      written (reason_tag refusal) (uint_octets (reason_code refusal)),
      is_spelling (reason_tag refusal) (uint_octets (reason_code refusal)) (one_octet (reason_tag refusal) (omega (arith, b.1)) (λ e. omega (arith, e, b.0, b.1))) (uint_short (reason_code refusal)),
      b.0,
      omega (arith, b.1),
      octet_written (reason_code refusal) (code_bound refusal),
    )

pub reject_spelled : (invoke : Option ℕ) (refusal : ℕ) → IfSome invoke (λ n. n < 2 ^ 32) → IsReply (reject_octets invoke refusal) (reject invoke (reason_code refusal))
unfolding reject_octets
reject_spelled None refusal small =
    let short = octets_short (reason_tag refusal) (uint_octets (reason_code refusal)) in
    (written 164 (reason_octets refusal), is_spelling 164 (reason_octets refusal) (one_octet 164 (omega arith) (λ e. omega (arith, e))) (omega (arith, short, length-uint_octets (reason_code refusal))), (refl, reason_spelled refusal))
reject_spelled (Some invoke) refusal small =
    let content : List ℕ = octets_of 128 (uint_octets invoke) ++ reason_octets refusal in
    let one = octets_short (reason_tag refusal) (uint_octets (reason_code refusal)) in
    let two = octets_short 128 (uint_octets invoke) in
    let all : length content < 2 ^ 32 = omega (arith, one, two, length-uint_octets (reason_code refusal), length-uint_octets invoke, length-append (octets_of 128 (uint_octets invoke)) (reason_octets refusal)) in (
      written 164 content,
      is_spelling 164 content (one_octet 164 (omega arith) (λ e. omega (arith, e))) all,
      (refl, reason_octets refusal, numbered_written 128 invoke (reason_octets refusal) (omega arith) (λ e. omega (arith, e)) small, reason_spelled refusal),
    )

-- ---- the end of a conclude

pub concluded_spelled : IsReply (140 ∷ 0 ∷ []) concluded
concluded_spelled = (written 140 [], is_spelling 140 [] (one_octet 140 (omega arith) (λ e. omega (arith, e))) (omega arith), (refl, refl))

-- ---- a report

pub report_is_reply : (input names results : List ℕ) → IsReport input names results → IsReply input (information input)
report_is_reply input names results h = (h.0, h.4, (h.5, refl))
