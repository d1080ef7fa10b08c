-- What one side sends spells what the other reads.
use Rattle.std.proofs.Common.{◌≡◌, ℕ, ◌+◌, ◌%◌, ◌^◌, ◌<◌, ◌≤◌, true, List, [], ◌∷◌, length, Some, refl, sym, subst, arith}
use Rattle.ber_grammar.specs.Place.{anywhere}
use Rattle.ber_write.specs.Minimal.{octets_of, written}
use Rattle.ber_write.proofs.WrittenLaws.{written_last, one_octet}
use Rattle.session_pres.specs.declared.codes.TheConstants.{FINISH, DISCONNECT}
use Rattle.session_pres.specs.Written.{accept_parameters, accept_spdu, release_spdu, IsOneElement}
use Rattle.session_pres.specs.WrittenPpdu.{connect_spdu, cpa_octets}
use Rattle.session_pres.specs.Plain.{Asked}
use Rattle.session_pres.specs.Presentation.{Request}
use Rattle.session_pres.proofs.FitLaws.{accept_short, answer_length}
use Rattle.session_pres.proofs.PpduLaws.{accept_back}
use Rattle.session_pres.proofs.RequestLaws.{connect_back}
use Rattle.session_pres.proofs.ReadBackLaws.{release_back}
use Rattle.acse_apdu.specs.declared.codes.TheConstants.{AARQ, AARE, REASON, RLRQ, RLRE}
use Rattle.acse_apdu.specs.Written.{aarq_content, aare_content, aarq_octets, aare_octets, release_octets}
use Rattle.acse_apdu.proofs.ReadBackLaws.{aarq_written, aare_written, release_written}
use Rattle.mms_initiate.specs.declared.initiate.Initiate.{Initiate}
use Rattle.mms_initiate.specs.Initiate.{IsAccepted}
use Rattle.mms_initiate.specs.InitiateOctets.{accepted, proposed, initiate_answer, initiate_request}
use Rattle.mms_initiate.proofs.InitiateOctetsLaws.{answer_spelled, request_spelled}
use Rattle.osi_stack.specs.Called.{acceptance}
use Rattle.osi_stack.specs.Calling.{request_spdu}
use Rattle.osi_stack.specs.Lines.{IsProposal}
use Rattle.osi_stack.specs.Spelled.{IsRequest, IsResponse, IsFinish, IsDisconnect}
use Rattle.osi_stack.proofs.FitLaws.{aarq_fits, aare_fits, aare_short, connect_fits, release_fits}

element : (tag : ℕ) (content : List ℕ) → tag < 256 → (tag % 32 ≡ 31 → ⊥) → length content < 2 ^ 32 → IsOneElement (octets_of tag content)
element tag content lt ne small = (written tag content, written_last tag content (one_octet tag lt ne) small)

-- ---- a CONNECT

aarq_element : (size : ℕ) → IsOneElement (aarq_octets 3 (initiate_request size))
unfolding aarq_octets
aarq_element size = element AARQ (aarq_content 3 (initiate_request size)) (omega arith) (λ e. omega (arith, e)) (aarq_fits 3 size)

request_is : (size : ℕ) → request_spdu size ≡ connect_spdu (aarq_octets 3 (initiate_request size))
unfolding request_spdu
request_is size = refl

pub connect_sent : (size : ℕ) → IsProposal size → (cp : Request) × IsRequest (request_spdu size) cp (proposed size) × (cp.acse ≡ 1) × (cp.mms ≡ 3) × (cp.list ≡ true ∷ true ∷ [])
connect_sent size is =
    let b = connect_back (anywhere (request_spdu size)) (aarq_octets 3 (initiate_request size)) (aarq_element size) (connect_fits size) (request_is size) in
    let p = aarq_written b.1.user 3 (initiate_request size) (omega arith) (aarq_fits 3 size) b.7 in
    let mms : IsAccepted 168 p.0.octets (proposed size) = subst (λ (o : List ℕ). IsAccepted 168 o (proposed size)) (sym p.2) (request_spelled size is.1, is.0) in
    (b.1, record { user = b.0; spdu = b.2; ppdu = b.3; pdu = p.0; apdu = p.1; mms = mms }, b.4, b.5, b.6)

-- ---- an ACCEPT

aare_element : (context : ℕ) (asked : Initiate) → IsOneElement (aare_octets context (initiate_answer asked))
unfolding aare_octets
aare_element context asked = element AARE (aare_content context (initiate_answer asked)) (omega arith) (λ e. omega (arith, e)) (aare_fits context asked)

acceptance_is : (cp : Asked) (asked : Initiate) → cp.acse ≡ 1 → cp.list ≡ true ∷ true ∷ [] → acceptance cp asked ≡ accept_spdu (cpa_octets (true ∷ true ∷ []) 1 (aare_octets cp.mms (initiate_answer asked)))
unfolding acceptance
acceptance_is cp asked acse list = rw (acse, list) refl

pub accept_sent : (cp : Asked) (asked : Initiate) → cp.acse ≡ 1 → cp.mms < 2 ^ 32 → cp.list ≡ true ∷ true ∷ [] → 1024 ≤ asked.size → IsResponse (acceptance cp asked) (accepted asked)
accept_sent cp asked acse small list least =
    let aare : List ℕ = aare_octets cp.mms (initiate_answer asked) in
    let few : length (cpa_octets (true ∷ true ∷ []) 1 aare) ≤ 18 + length aare + 64 = answer_length (true ∷ true ∷ []) 1 aare (omega arith) in
    let fits : length (accept_parameters (cpa_octets (true ∷ true ∷ []) 1 aare)) ≤ 65535 = accept_short (cpa_octets (true ∷ true ∷ []) 1 aare) (omega (arith, few, aare_short cp.mms asked)) in
    let b = accept_back (anywhere (acceptance cp asked)) aare (aare_element cp.mms asked) fits (acceptance_is cp asked acse list) in
    let p = aare_written b.0 cp.mms (initiate_answer asked) small (aare_fits cp.mms asked) b.2 in
    let mms : IsAccepted 169 p.0.octets (accepted asked) = subst (λ (o : List ℕ). IsAccepted 169 o (accepted asked)) (sym p.2) (answer_spelled asked, omega (arith, least)) in
    record { user = b.0; spdu = b.1; pdu = p.0; apdu = p.1; mms = mms }

-- ---- a release

release_element : (tag : ℕ) → tag < 256 → (tag % 32 ≡ 31 → ⊥) → IsOneElement (release_octets tag)
release_element tag lt ne = element tag (octets_of REASON (0 ∷ [])) lt ne (omega arith)

pub finish_sent : (context : ℕ) → context < 2 ^ 32 → IsFinish (release_spdu FINISH context (release_octets RLRQ)) context
finish_sent context small =
    let b = release_back FINISH (anywhere (release_spdu FINISH context (release_octets RLRQ))) context (release_octets RLRQ) small (release_element RLRQ (omega arith) (λ e. omega (arith, e))) (release_fits context RLRQ) refl in
    (Some b.0, b.2, (b.1, b.3, release_written RLRQ b.1 (one_octet RLRQ (omega arith) (λ e. omega (arith, e))) b.4))

pub disconnect_sent : IsDisconnect (release_spdu DISCONNECT 1 (release_octets RLRE))
disconnect_sent =
    let b = release_back DISCONNECT (anywhere (release_spdu DISCONNECT 1 (release_octets RLRE))) 1 (release_octets RLRE) (omega arith) (release_element RLRE (omega arith) (λ e. omega (arith, e))) (release_fits 1 RLRE) refl in
    (Some b.0, b.2, (b.1, b.3, release_written RLRE b.1 (one_octet RLRE (omega arith) (λ e. omega (arith, e))) b.4))
