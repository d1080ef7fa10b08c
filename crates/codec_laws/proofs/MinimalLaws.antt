-- Each PDU that is written says its elements in the fewest octets.
use Rattle.std.proofs.Common.{◌≡◌, ℕ, ◌%◌, ◌<◌, ◌≤◌, ◌^◌, Bool, true, false, ltb, eqb, List, [], ◌∷◌, ◌++◌, length, Option, Some, None, refl, sym, ap, ◌∙◌, arith}
use Rattle.std.specs.Prelude.{IfSome, if◌then◌else◌}
use Rattle.std.proofs.lemmas.Bool.{ltb-true, eqb-false}
use Rattle.std.proofs.lemmas.List.{length-append, append-nil}
use Rattle.ber_write.specs.Minimal.{octets_of, uint_octets, CanBeTag}
use Rattle.ber_write.proofs.NumberLaws.{length-uint_octets}
use Rattle.ber_write.proofs.LengthLaws.{octets_short}
use Rattle.ber_write.proofs.WrittenLaws.{one_octet}
use Rattle.sv_base.specs.Depth.{depth, HasNoOther}
use Rattle.sv_base.specs.Seen.{seen_of}
use Rattle.sv_base.specs.Data.{data_of}
use Rattle.sv_base.specs.declared.value.Value.{Value}
use Rattle.mms_data.specs.Writable.{SeenHasFractions, SeenIsOfTypes}
use Rattle.mms_initiate.specs.declared.initiate.Initiate.{Initiate}
use Rattle.mms_initiate.specs.InitiateOctets.{accepted, proposed, answer_services, request_services, answer_details, request_details, details_with, initiate_content, initiate_answer, initiate_request}
use Rattle.mms_pdu.specs.AskingOctets.{domain_name, confirmed_octets, read_request, write_request, conclude_request}
use Rattle.mms_elements.specs.Reports.{report_octets}
use Rattle.mms_pdu.specs.ReplyOctets.{class_tag, reason_tag, reason_code, answer_octets, error_octets, reject_octets, concluded_octets}
use Rattle.codec_laws.specs.Said.{Said, nothing, holds, counts, groups, carries, IsMinimal, shortest, CanBeSaid, initiate_says, variable_says, read_says, write_says, answer_says, error_says, reject_says, report_says}
use Rattle.mms_elements.specs.declared.tags.TheConstants.{INITIATE_REQUEST, INITIATE_RESPONSE, CONCLUDE_REQUEST, CONCLUDE_RESPONSE}
use Rattle.mms_initiate.proofs.InitiateOctetsLaws.{content_short}
use Rattle.mms_pdu.proofs.ReplyOctetsLaws.{class_can, reason_bounds, code_bound}
use Rattle.codec_laws.proofs.SaidLaws.{minimal}

-- ---- what can be said

-- a tag of one octet
abbrev is_short : ℕ → Bool
is_short t = if ltb t 256 then (if eqb (t % 32) 31 then false else true) else false

can : (t : ℕ) → is_short t ≡ true → CanBeTag t
can t e =
    let lt = chosen_true (ltb t 256) (if eqb (t % 32) 31 then false else true) e in
    one_octet t (ltb-true t 256 lt.0) (eqb-false (t % 32) 31 (not_true (eqb (t % 32) 31) lt.1))
  where
    chosen_true : (a b : Bool) → (if a then b else false) ≡ true → (a ≡ true) × (b ≡ true)
    chosen_true true b e = (refl, e)
    chosen_true false b e = absurd cc

    not_true : (a : Bool) → (if a then false else true) ≡ true → a ≡ false
    not_true true e = absurd cc
    not_true false e = refl

-- ---- what is written in the fewest octets

record Short (octets : List ℕ) (said : Said) : Type 0 where
  is : octets ≡ shortest said

last_holds : (tag : ℕ) (content : List ℕ) → Short (octets_of tag content) (holds tag content nothing)
last_holds tag content = record { is = sym (append-nil (octets_of tag content)) }

more_holds : (tag : ℕ) (content rest : List ℕ) (others : Said) → Short rest others → Short (octets_of tag content ++ rest) (holds tag content others)
more_holds tag content rest others h = record { is = ap (λ (x : List ℕ). octets_of tag content ++ x) h.is }

last_counts : (tag n : ℕ) → Short (octets_of tag (uint_octets n)) (counts tag n nothing)
last_counts tag n = record { is = sym (append-nil (octets_of tag (uint_octets n))) }

more_counts : (tag n : ℕ) (rest : List ℕ) (others : Said) → Short rest others → Short (octets_of tag (uint_octets n) ++ rest) (counts tag n others)
more_counts tag n rest others h = record { is = ap (λ (x : List ℕ). octets_of tag (uint_octets n) ++ x) h.is }

last_groups : (tag : ℕ) (content : List ℕ) (inner : Said) → Short content inner → Short (octets_of tag content) (groups tag inner nothing)
last_groups tag content inner h = record { is = ap (λ (x : List ℕ). octets_of tag x) h.is ∙ sym (append-nil (octets_of tag (shortest inner))) }

more_groups : (tag : ℕ) (content rest : List ℕ) (inner others : Said) → Short content inner → Short rest others → Short (octets_of tag content ++ rest) (groups tag inner others)
more_groups tag content rest inner others h k = record { is = ap (λ (x : List ℕ). octets_of tag x ++ rest) h.is ∙ ap (λ (x : List ℕ). octets_of tag (shortest inner) ++ x) k.is }

fewest : (pdu : List ℕ) (said : Said) → Short pdu said → CanBeSaid said → length pdu < 2 ^ 32 → IsMinimal pdu said
fewest pdu said h is small = minimal pdu said h.is is small

-- ---- initiates

initiate_can : (tag : ℕ) (i : Initiate) (services : List ℕ) → CanBeTag tag → i.size < 2 ^ 64 → i.calling < 2 ^ 64 → i.called < 2 ^ 64 → i.nesting < 2 ^ 64 → CanBeSaid (initiate_says tag i services)
initiate_can tag i services is size calling called nesting =
    (is, (can 128 refl, size, (can 129 refl, calling, (can 130 refl, called, (can 131 refl, nesting, (can 164 refl, (can 128 refl, (can 129 refl, (can 130 refl, tt))), tt))))), tt)

initiate_is : (tag : ℕ) (i : Initiate) (services : List ℕ) → Short (octets_of tag (initiate_content i (details_with services))) (initiate_says tag i services)
initiate_is tag i services =
    last_groups tag _ _ (more_counts 128 i.size _ _ (more_counts 129 i.calling _ _ (more_counts 130 i.called _ _ (more_counts 131 i.nesting _ _
    (last_groups 164 _ _ (more_holds 128 (1 ∷ []) _ _ (more_holds 129 (5 ∷ 241 ∷ 0 ∷ []) _ _ (last_holds 130 services))))))))

pub initiate_request_minimal : (size : ℕ) → size ≤ 65000 → IsMinimal (initiate_request size) (initiate_says INITIATE_REQUEST (proposed size) request_services)
unfolding initiate_request
initiate_request_minimal size le =
    fewest (initiate_request size) (initiate_says INITIATE_REQUEST (proposed size) request_services) (initiate_is INITIATE_REQUEST (proposed size) request_services)
    (initiate_can INITIATE_REQUEST (proposed size) request_services (can 168 refl) (omega (arith, le)) (omega arith) (omega arith) (omega arith))
    (omega (arith, octets_short INITIATE_REQUEST (initiate_content (proposed size) request_details), content_short (proposed size) request_details refl))

pub initiate_answer_minimal : (asked : Initiate) → IsMinimal (initiate_answer asked) (initiate_says INITIATE_RESPONSE (accepted asked) answer_services)
unfolding initiate_answer
initiate_answer_minimal asked =
    fewest (initiate_answer asked) (initiate_says INITIATE_RESPONSE (accepted asked) answer_services) (initiate_is INITIATE_RESPONSE (accepted asked) answer_services)
    (initiate_can INITIATE_RESPONSE (accepted asked) answer_services (can 169 refl) (omega arith) (omega arith) (omega arith) (omega arith))
    (omega (arith, octets_short INITIATE_RESPONSE (initiate_content (accepted asked) answer_details), content_short (accepted asked) answer_details refl))

-- ---- requests

variable_can : (d i : List ℕ) (others : Said) → CanBeSaid others → CanBeSaid (variable_says d i others)
variable_can d i others more = (can 160 refl, (can 48 refl, (can 160 refl, (can 161 refl, (can 26 refl, (can 26 refl, tt)), tt), tt), tt), more)

inner_is : (d i : List ℕ) → Short (octets_of 48 (octets_of 160 (domain_name d i))) (groups 48 (groups 160 (groups 161 (holds 26 d (holds 26 i nothing)) nothing) nothing) nothing)
inner_is d i = last_groups 48 _ _ (last_groups 160 _ _ (last_groups 161 _ _ (more_holds 26 d _ _ (last_holds 26 i))))

confirmed_is : (invoke tag : ℕ) (body : List ℕ) (service : Said) → Short body service → Short (confirmed_octets invoke tag body) (groups 160 (counts 2 invoke (groups tag service nothing)) nothing)
confirmed_is invoke tag body service h = last_groups 160 _ _ (more_counts 2 invoke _ _ (last_groups tag body service h))

pub read_minimal : (invoke : ℕ) (d i : List ℕ) → invoke < 2 ^ 32 → length (read_request invoke d i) < 2 ^ 32 → IsMinimal (read_request invoke d i) (read_says invoke d i)
unfolding read_request
read_minimal invoke d i small fits =
    fewest (read_request invoke d i) (read_says invoke d i) (confirmed_is invoke 164 _ _ (last_groups 161 _ _ (last_groups 160 _ _ (inner_is d i)))) (can 160 refl, (can 2 refl, omega (arith, small), (can 164 refl, (can 161 refl, variable_can d i nothing tt, tt), tt)), tt) fits

pub write_minimal : (invoke : ℕ) (d i : List ℕ) (v : Value) → invoke < 2 ^ 32 → HasNoOther v → depth v ≤ 10 → SeenHasFractions (seen_of v) → SeenIsOfTypes (seen_of v) → length (write_request invoke d i v) < 2 ^ 32
    → IsMinimal (write_request invoke d i v) (write_says invoke d i (seen_of v))
unfolding write_request
write_minimal invoke d i v small known deep fractions types fits =
    fewest (write_request invoke d i v) (write_says invoke d i (seen_of v)) (confirmed_is invoke 165 _ _ (more_groups 160 _ _ _ _ (inner_is d i) (last_groups 160 _ _ (record { is = sym (append-nil (data_of v)) }))))
    (can 160 refl, (can 2 refl, omega (arith, small), (can 165 refl, variable_can d i (groups 160 (carries (seen_of v) nothing) nothing) (can 160 refl, (known, deep, fractions, types, tt), tt), tt)), tt) fits

pub conclude_minimal : IsMinimal conclude_request (holds CONCLUDE_REQUEST [] nothing)
conclude_minimal = fewest conclude_request (holds CONCLUDE_REQUEST [] nothing) (record { is = refl }) (can 139 refl, tt) (omega arith)

-- ---- what a server sends

pub answer_minimal : (invoke tag : ℕ) (body : List ℕ) → invoke < 2 ^ 32 → CanBeTag tag → length (answer_octets invoke tag body) < 2 ^ 32 → IsMinimal (answer_octets invoke tag body) (answer_says invoke tag body)
unfolding answer_octets
answer_minimal invoke tag body small is fits =
    fewest (answer_octets invoke tag body) (answer_says invoke tag body) (last_groups 161 _ _ (more_counts 2 invoke _ _ (last_holds tag body))) (can 161 refl, (can 2 refl, omega (arith, small), (is, tt)), tt) fits

pub error_minimal : (invoke class code : ℕ) → invoke < 2 ^ 32 → class < 256 → code < 256 → IsMinimal (error_octets invoke class code) (error_says invoke class code)
unfolding error_octets
error_minimal invoke class code small low few =
    let f : List ℕ = octets_of (class_tag class) (uint_octets code) in
    let rest : List ℕ = octets_of 162 (octets_of 160 f) in
    let content : List ℕ = octets_of 128 (uint_octets invoke) ++ rest in
    let short : length (octets_of 162 content) < 2 ^ 32 = omega (
      arith,
      octets_short (class_tag class) (uint_octets code),
      octets_short 160 f,
      octets_short 162 (octets_of 160 f),
      octets_short 128 (uint_octets invoke),
      octets_short 162 content,
      length-uint_octets code,
      length-uint_octets invoke,
      length-append (octets_of 128 (uint_octets invoke)) rest,
    ) in
    fewest (error_octets invoke class code) (error_says invoke class code) (last_groups 162 _ _ (more_counts 128 invoke _ _ (last_groups 162 _ _ (last_groups 160 _ _ (last_counts (class_tag class) code)))))
    (can 162 refl, (can 128 refl, omega (arith, small), (can 162 refl, (can 160 refl, (class_can class low, omega (arith, few), tt), tt), tt)), tt) short

reason_can : (refusal : ℕ) → CanBeTag (reason_tag refusal)
reason_can refusal = let b = reason_bounds refusal in one_octet (reason_tag refusal) (omega (arith, b.1)) (λ e. omega (arith, e, b.0, b.1))

pub reject_minimal : (invoke : Option ℕ) (refusal : ℕ) → IfSome invoke (λ n. n < 2 ^ 32) → IsMinimal (reject_octets invoke refusal) (reject_says invoke refusal)
unfolding reject_octets
reject_minimal None refusal small =
    let reason : List ℕ = octets_of (reason_tag refusal) (uint_octets (reason_code refusal)) in
    let short : length (octets_of 164 reason) < 2 ^ 32 = omega (arith, octets_short (reason_tag refusal) (uint_octets (reason_code refusal)), octets_short 164 reason, length-uint_octets (reason_code refusal)) in
    fewest (reject_octets None refusal) (reject_says None refusal) (last_groups 164 _ _ (last_counts (reason_tag refusal) (reason_code refusal))) (can 164 refl, (reason_can refusal, omega (arith, code_bound refusal), tt), tt) short
reject_minimal (Some invoke) refusal small =
    let reason : List ℕ = octets_of (reason_tag refusal) (uint_octets (reason_code refusal)) in
    let content : List ℕ = octets_of 128 (uint_octets invoke) ++ reason in
    let short : length (octets_of 164 content) < 2 ^ 32 = omega (
      arith,
      octets_short (reason_tag refusal) (uint_octets (reason_code refusal)),
      octets_short 128 (uint_octets invoke),
      octets_short 164 content,
      length-uint_octets (reason_code refusal),
      length-uint_octets invoke,
      length-append (octets_of 128 (uint_octets invoke)) reason,
    ) in
    fewest (reject_octets (Some invoke) refusal) (reject_says (Some invoke) refusal) (last_groups 164 _ _ (more_counts 128 invoke _ _ (last_counts (reason_tag refusal) (reason_code refusal))))
    (can 164 refl, (can 128 refl, omega (arith, small), (reason_can refusal, omega (arith, code_bound refusal), tt)), tt) short

pub report_minimal : (names results : List ℕ) → length (report_octets names results) < 2 ^ 32 → IsMinimal (report_octets names results) (report_says names results)
unfolding report_octets
report_minimal names results fits = fewest (report_octets names results) (report_says names results) (last_groups 163 _ _ (last_groups 160 _ _ (record { is = ap (λ (x : List ℕ). names ++ x) (last_holds 160 results).is }))) (can 163 refl, (can 160 refl, (can 160 refl, tt), tt), tt) fits

pub concluded_minimal : IsMinimal concluded_octets (holds CONCLUDE_RESPONSE [] nothing)
concluded_minimal = fewest concluded_octets (holds CONCLUDE_RESPONSE [] nothing) (record { is = refl }) (can 140 refl, tt) (omega arith)
