-- How long the PDU of a response is, and when it is the error of one that is too long.
use Rattle.std.proofs.Common.{◌≡◌, ℕ, ◌+◌, ◌<◌, ◌≤◌, Bool, true, false, List, ◌++◌, length, min, Option, Some, None, Result}
use Rattle.std.proofs.Common.{refl, sym, ap, subst, ◌∙◌, append_assoc, arith}
use Rattle.std.specs.Prelude.{nat_le, if◌then◌else◌}
use Rattle.std.proofs.lemmas.Bool.{le-leb, lt-leb}
use Rattle.std.proofs.lemmas.List.{length-append}
use Rattle.ber_write.specs.Minimal.{octets_of, head_octets, uint_octets, element_size}
use Rattle.ber_write.proofs.LengthLaws.{octets_longer, headed, length_of_element}
use Rattle.sv_base.specs.declared.value.Value.{Value}
use Rattle.mms_elements.specs.declared.tags.TheConstants.{READ}
use Rattle.mms_pdu.specs.ReplyOctets.{answer_content, answer_octets, error_octets}
use Rattle.bay_model.specs.declared.reply.Asked.{Asked}
use Rattle.bay_answers.specs.RepliesVariables.{asked_octets}
use Rattle.bay_answers.specs.RepliesContents.{results_octets, read_content}
use Rattle.bay_answers.specs.RepliesSizes.{service_size, begun}
use Rattle.bay_answers.specs.Replies.{response}

-- a DataAccessError
pub length_of_failure : (code : ℕ) → length (octets_of 128 (uint_octets code)) ≡ element_size (length (uint_octets code))
length_of_failure code = length_of_element 128 (uint_octets code) (omega arith)

-- the invoke number and the service's element
pub length_of_content : (invoke tag : ℕ) (c : List ℕ) → tag < 256 → length (answer_content invoke tag c) ≡ service_size invoke (length c)
unfolding service_size
length_of_content invoke tag c lt =
    length-append (octets_of 2 (uint_octets invoke)) (octets_of tag c)
    ∙ rw (length_of_element 2 (uint_octets invoke) (omega arith)) (rw (length_of_element tag c lt) refl)

-- the PDU
pub length_of_answer : (invoke tag : ℕ) (c : List ℕ) → tag < 256 → length (answer_octets invoke tag c) ≡ element_size (service_size invoke (length c))
unfolding answer_octets
length_of_answer invoke tag c lt = length_of_element 0xa1 (answer_content invoke tag c) (omega arith) ∙ ap element_size (length_of_content invoke tag c lt)

around : (invoke tag : ℕ) (c : List ℕ) → tag < 256
    → ((head_octets 161 (service_size invoke (length c)) ++ octets_of 2 (uint_octets invoke)) ++ head_octets tag (length c)) ++ c ≡ answer_octets invoke tag c
unfolding answer_octets
around invoke tag c lt =
    append_assoc (head_octets 161 (service_size invoke (length c)) ++ octets_of 2 (uint_octets invoke)) (head_octets tag (length c)) c
    ∙ ap (λ (o : List ℕ). (head_octets 161 (service_size invoke (length c)) ++ octets_of 2 (uint_octets invoke)) ++ o) (headed tag (length c) c refl)
    ∙ append_assoc (head_octets 161 (service_size invoke (length c))) (octets_of 2 (uint_octets invoke)) (octets_of tag c)
    ∙ headed 161 (service_size invoke (length c)) (answer_content invoke tag c) (length_of_content invoke tag c lt)

-- ---- what is begun

pub size_above : (n : ℕ) → n ≤ element_size n
unfolding element_size
size_above n = omega arith

service_above : (invoke n : ℕ) → n ≤ service_size invoke n
unfolding service_size
service_above invoke n = omega (arith, size_above n)

pub holds_too_much : (size invoke tag n : ℕ) → size < n → None ≡ begun size invoke tag n
holds_too_much size invoke tag n more =
    let long : size < element_size (service_size invoke n) = omega (arith, more, service_above invoke n, size_above (service_size invoke n)) in
    rw (lt-leb (element_size (service_size invoke n)) size long) refl

pub is_too_long : (size invoke tag n : ℕ) → size < element_size (service_size invoke n) → None ≡ begun size invoke tag n
is_too_long size invoke tag n more = rw (lt-leb (element_size (service_size invoke n)) size more) refl

pub fits : (size invoke tag n : ℕ) → element_size (service_size invoke n) ≤ size
    → Some ((head_octets 161 (service_size invoke n) ++ octets_of 2 (uint_octets invoke)) ++ head_octets tag n) ≡ begun size invoke tag n
fits size invoke tag n le = rw (le-leb (element_size (service_size invoke n)) size le) refl

-- ---- what it begins

abbrev Begins : ℕ → ℕ → ℕ → List ℕ → Option (List ℕ) → Type 0
Begins size invoke tag c None = response size invoke tag c ≡ error_octets invoke 4 3
Begins size invoke tag c (Some h) = response size invoke tag c ≡ h ++ c

begins_by : (size invoke tag : ℕ) (c : List ℕ) (b : Bool) → tag < 256 → nat_le (length (answer_octets invoke tag c)) size ≡ b
    → Begins size invoke tag c (if b
    then Some ((head_octets 161 (service_size invoke (length c)) ++ octets_of 2 (uint_octets invoke)) ++ head_octets tag (length c))
    else None)
begins_by size invoke tag c true lt e = rw (e, around invoke tag c lt) refl
begins_by size invoke tag c false lt e = rw e refl

begins : (size invoke tag : ℕ) (c : List ℕ) → tag < 256 → Begins size invoke tag c (begun size invoke tag (length c))
begins size invoke tag c lt =
    let same = ap (λ (k : ℕ). nat_le k size) (length_of_answer invoke tag c lt) in
    begins_by size invoke tag c (nat_le (element_size (service_size invoke (length c))) size) lt same

pub is_answered : (size invoke tag n : ℕ) (c h : List ℕ) → tag < 256 → length c ≡ n → Some h ≡ begun size invoke tag n → response size invoke tag c ≡ h ++ c
is_answered size invoke tag n c h lt e is = subst (Begins size invoke tag c) (ap (begun size invoke tag) e ∙ sym is) (begins size invoke tag c lt)

pub is_refused : (size invoke tag n : ℕ) (c : List ℕ) → tag < 256 → length c ≡ n → None ≡ begun size invoke tag n
    → response size invoke tag c ≡ error_octets invoke 4 3
is_refused size invoke tag n c lt e is = subst (Begins size invoke tag c) (ap (begun size invoke tag) e ∙ sym is) (begins size invoke tag c lt)

-- ---- of a read

long_refused : (size invoke tag : ℕ) (c : List ℕ) → tag < 256 → size < length c → response size invoke tag c ≡ error_octets invoke 4 3
long_refused size invoke tag c lt more = is_refused size invoke tag (length c) c lt refl (holds_too_much size invoke tag (length c) more)

pub reads_too_much : (size invoke len : ℕ) (asked : Asked) (results : List (Result Value ℕ))
    → len ≡ min (length (results_octets results)) 4294967295 → size < len
    → response size invoke READ (read_content asked results) ≡ error_octets invoke 4 3
reads_too_much size invoke len asked results e more =
    long_refused size invoke READ (read_content asked results) (omega arith)
    (omega (arith, e, more, length-append (asked_octets asked) (octets_of 0xa1 (results_octets results)), octets_longer 0xa1 (results_octets results)))

pub read_around : (asked : List ℕ) (len : ℕ) (results : List (Result Value ℕ)) → len ≡ length (results_octets results)
    → (asked ++ head_octets 161 len) ++ results_octets results ≡ asked ++ octets_of 161 (results_octets results)
read_around asked len results e =
    append_assoc asked (head_octets 161 len) (results_octets results)
    ∙ ap (λ (o : List ℕ). asked ++ o) (headed 161 len (results_octets results) (sym e))

read_length : (asked : Asked) (len : ℕ) (results : List (Result Value ℕ)) → len ≡ length (results_octets results)
    → length (read_content asked results) ≡ length (asked_octets asked) + element_size len
read_length asked len results e =
    length-append (asked_octets asked) (octets_of 0xa1 (results_octets results))
    ∙ ap (λ (k : ℕ). length (asked_octets asked) + k) (length_of_element 0xa1 (results_octets results) (omega arith) ∙ ap element_size (sym e))

pub read_answered : (size invoke len n : ℕ) (asked : Asked) (results : List (Result Value ℕ)) (h : List ℕ) → len ≡ length (results_octets results)
    → n ≡ length (asked_octets asked) + element_size len → Some h ≡ begun size invoke READ n
    → response size invoke READ (read_content asked results) ≡ h ++ (asked_octets asked ++ octets_of 161 (results_octets results))
read_answered size invoke len n asked results h e count is =
    is_answered size invoke READ n (read_content asked results) h (omega arith) (read_length asked len results e ∙ sym count) is

pub read_refused : (size invoke len n : ℕ) (asked : Asked) (results : List (Result Value ℕ)) → len ≡ length (results_octets results)
    → n ≡ length (asked_octets asked) + element_size len → None ≡ begun size invoke READ n
    → response size invoke READ (read_content asked results) ≡ error_octets invoke 4 3
read_refused size invoke len n asked results e count is =
    is_refused size invoke READ n (read_content asked results) (omega arith) (read_length asked len results e ∙ sym count) is
