-- What is read of octets doesn't depend on where they lie.
use Rattle.std.proofs.Common.{◌≡◌, ℕ, cond, eqb, ◌&&◌, List, [], ◌∷◌, Option, Some, None, Result, Ok, Err, refl, sym, ap, ◌∙◌}
use Rattle.ber_grammar.specs.Element.{Element}
use Rattle.ber_grammar.specs.Place.{Piece, Spot, anywhere}
use Rattle.ber_grammar.specs.Reader.{◌>>=◌, Gives, and_then, kept}
use Rattle.ber_grammar.specs.Reading.{uint_at}
use Rattle.ber_grammar.specs.Steps.{required}
use Rattle.ber_grammar.specs.Fields.{fields_in, field_with, with_tag, only_with, whole_in}
use Rattle.ber_grammar.proofs.AlikeLaws.{Maybe, Both, Parts, Spots, Rows, then_maybe, then_same, is_required, next, both_if, if_both, plain, fields_alike, with_tag-alike, only_with-alike, field_with-alike, whole_alike}
use Rattle.acse_apdu.specs.declared.codes.TheConstants.{AARQ, AARE, RLRQ, RLRE, APPLICATION_CONTEXT_NAME, RESULT, USER_INFORMATION, EXTERNAL, SINGLE_ASN1_TYPE, INTEGER, OBJECT_IDENTIFIER}
use Rattle.acse_apdu.specs.declared.fault.AcFault.{AcFault}
use Rattle.acse_apdu.specs.declared.fault.AcFault.TheVariants.{Apdu, ContextName, NoUserInformation}
use Rattle.acse_apdu.specs.Apdu.{with_fields, apdu_at}
use Rattle.acse_apdu.specs.Contents.{is_mms_name, names_mms, is_zero, result_at, is_accepted, is_word, is_context, value_of, behind_reference, external_of, pdu_at}
use Rattle.acse_apdu.specs.Reading.{association_at, aarq_at, aare_at, release_at, octets_in, pdu_of_aarq, pdu_of_aare, rlrq_of, rlre_of}

-- ---- the application context and the result

name-alike : (o u : Option Piece) → Maybe Parts o u → is_mms_name o ≡ is_mms_name u
name-alike None None h = refl
name-alike None (Some q) h = absurd h
name-alike (Some p) None h = absurd h
name-alike (Some p) (Some q) h = rw h refl

names-alike : (p q : Piece) → Parts p q → names_mms p ≡ names_mms q
unfolding names_mms
names-alike p q e =
    name-alike (and_then (field_with APPLICATION_CONTEXT_NAME p) (only_with OBJECT_IDENTIFIER)) (and_then (field_with APPLICATION_CONTEXT_NAME q) (only_with OBJECT_IDENTIFIER))
    (then_maybe Parts Parts (field_with APPLICATION_CONTEXT_NAME p) (field_with APPLICATION_CONTEXT_NAME q) (only_with OBJECT_IDENTIFIER) (only_with OBJECT_IDENTIFIER) (field_with-alike APPLICATION_CONTEXT_NAME p q e) (only_with-alike OBJECT_IDENTIFIER))

abbrev number_in : Piece → Option ℕ
number_in field = and_then (only_with INTEGER field) (λ number. kept (uint_at number.octets))

result-alike : (p q : Piece) → Parts p q → result_at p ≡ result_at q
unfolding result_at
result-alike p q e =
    then_same Parts (field_with RESULT p) (field_with RESULT q) number_in number_in (field_with-alike RESULT p q e)
    (λ x y h. then_same Parts (only_with INTEGER x) (only_with INTEGER y) (λ n. kept (uint_at n.octets)) (λ n. kept (uint_at n.octets)) (only_with-alike INTEGER x y h) (λ m n k. ap (λ (z : List ℕ). kept (uint_at z)) k))

accepted-alike : (p q : Piece) → Parts p q → is_accepted p ≡ is_accepted q
accepted-alike p q e = ap is_zero (result-alike p q e)

-- ---- user information

value-alike : (s t : Spot) (ss ts : List Spot) → Spots s t → Rows ss ts → Maybe Parts (value_of s ss) (value_of t ts)
value-alike s t [] [] e h = tt
value-alike s t [] (b ∷ rest) e h = absurd h
value-alike s t (a ∷ more) [] e h = absurd h
value-alike s t (a ∷ []) (b ∷ []) e h =
    both_if Parts (is_context s) (is_context t) (with_tag SINGLE_ASN1_TYPE a) (with_tag SINGLE_ASN1_TYPE b) None None (ap (λ (x : Element). eqb x.tag INTEGER && is_word (uint_at x.content)) e) (with_tag-alike SINGLE_ASN1_TYPE a b h.0) tt
value-alike s t (a ∷ []) (b ∷ d ∷ rest) e h = absurd h.1
value-alike s t (a ∷ c ∷ more) (b ∷ []) e h = absurd h.1
value-alike s t (a ∷ c ∷ more) (b ∷ d ∷ rest) e h = tt

behind-alike : (ss ts : List Spot) → Rows ss ts → Maybe Parts (behind_reference ss) (behind_reference ts)
behind-alike [] [] h = tt
behind-alike [] (t ∷ ts) h = absurd h
behind-alike (s ∷ ss) [] h = absurd h
behind-alike (s ∷ ss) (t ∷ ts) h = value-alike s t ss ts h.0 h.1

external-alike : (ss ts : List Spot) → Rows ss ts → Maybe Parts (external_of ss) (external_of ts)
external-alike [] [] h = tt
external-alike [] (t ∷ ts) h = absurd h
external-alike (s ∷ ss) [] h = absurd h
external-alike (s ∷ ss) (t ∷ ts) h =
    both_if Parts (eqb s.element.tag OBJECT_IDENTIFIER) (eqb t.element.tag OBJECT_IDENTIFIER) (behind_reference ss) (behind_reference ts) (value_of s ss) (value_of t ts) (ap (λ (x : Element). eqb x.tag OBJECT_IDENTIFIER) h.0)
    (behind-alike ss ts h.1) (value-alike s t ss ts h.0 h.1)

pdu-alike : (p q : Piece) → Parts p q → Maybe Parts (pdu_at p) (pdu_at q)
unfolding pdu_at
pdu-alike p q e =
    let inside = λ (external : Piece). and_then (fields_in external) external_of in
    then_maybe Parts Parts (field_with USER_INFORMATION p) (field_with USER_INFORMATION q) (λ x. and_then (only_with EXTERNAL x) inside) (λ x. and_then (only_with EXTERNAL x) inside) (field_with-alike USER_INFORMATION p q e)
    (λ x y h. then_maybe Parts Parts (only_with EXTERNAL x) (only_with EXTERNAL y) inside inside (only_with-alike EXTERNAL x y h)
    (λ u v k. then_maybe Rows Parts (fields_in u) (fields_in v) external_of external_of (fields_alike u v k) external-alike))

-- ---- APDUs

with_fields-alike : (p q : Piece) → Parts p q → Maybe Parts (with_fields p) (with_fields q)
with_fields-alike p q e = then_maybe Rows Parts (fields_in p) (fields_in q) (λ fields. Some p) (λ fields. Some q) (fields_alike p q e) (λ ss ts h. e)

apdu-alike : (tag : ℕ) (p q : Piece) → Parts p q → Maybe Parts (apdu_at tag p) (apdu_at tag q)
unfolding apdu_at
apdu-alike tag p q e =
    then_maybe Spots Parts (whole_in p) (whole_in q) (λ s. and_then (with_tag tag s) with_fields) (λ s. and_then (with_tag tag s) with_fields) (whole_alike p q e)
    (λ s t h. then_maybe Parts Parts (with_tag tag s) (with_tag tag t) with_fields with_fields (with_tag-alike tag s t h) with_fields-alike)

association-alike : (p q : Piece) → Parts p q → Both Parts (association_at p) (association_at q)
association-alike p q e =
    rw (names-alike p q e)
    (if_both Parts (names_mms q) (required NoUserInformation (pdu_at p)) (required NoUserInformation (pdu_at q)) (Err ContextName) (Err ContextName) (is_required Parts NoUserInformation (pdu_at p) (pdu_at q) (pdu-alike p q e)) refl)

answer-alike : (p q : Piece) → Parts p q → Both Parts (cond (is_accepted p) (association_at p) (Err Apdu)) (cond (is_accepted q) (association_at q) (Err Apdu))
answer-alike p q e = rw (accepted-alike p q e) (if_both Parts (is_accepted q) (association_at p) (association_at q) (Err Apdu) (Err Apdu) (association-alike p q e) refl)

-- what an APDU carries, wherever it lies
carried : (tag : ℕ) (read : Piece → Result Piece AcFault) (input : Piece) → ((p q : Piece) → Parts p q → Both Parts (read p) (read q)) → octets_in (required Apdu (apdu_at tag input) >>= read) ≡ octets_in (required Apdu (apdu_at tag (anywhere input.octets)) >>= read)
carried tag read input alike =
    plain Parts (λ p. p.octets) (required Apdu (apdu_at tag input) >>= read) (required Apdu (apdu_at tag (anywhere input.octets)) >>= read) (λ x y h. h)
    (next Parts Parts Apdu (apdu_at tag input) (apdu_at tag (anywhere input.octets)) read read (apdu-alike tag input (anywhere input.octets) refl) alike)

pub aarq-anywhere : (input : Piece) → octets_in (aarq_at input) ≡ pdu_of_aarq input.octets
unfolding aarq_at pdu_of_aarq
aarq-anywhere input = carried AARQ association_at input association-alike

pub aare-anywhere : (input : Piece) → octets_in (aare_at input) ≡ pdu_of_aare input.octets
unfolding aare_at pdu_of_aare
aare-anywhere input = carried AARE (λ content. cond (is_accepted content) (association_at content) (Err Apdu)) input answer-alike

released : (o u : Option Piece) → Maybe Parts o u → (required Apdu o >>= λ content. Ok tt) ≡ (required Apdu u >>= λ content. let r : Result (Unit {0}) AcFault = Ok tt in r)
released None None h = refl
released None (Some q) h = absurd h
released (Some p) None h = absurd h
released (Some p) (Some q) h = refl

pub release-anywhere : (tag : ℕ) (input : Piece) → release_at tag input ≡ release_at tag (anywhere input.octets)
unfolding release_at
release-anywhere tag input = released (apdu_at tag input) (apdu_at tag (anywhere input.octets)) (apdu-alike tag input (anywhere input.octets) refl)

-- ---- the program's readers

pub pdu_given : {X : Type 0} (view : X → Piece) (r : Result X AcFault) (read : Result Piece AcFault) (again : Result (List ℕ) AcFault) → octets_in read ≡ again → Gives view r read → Gives (λ x. (view x).octets) r again
pdu_given view (Ok x) read again e g = sym e ∙ ap octets_in g
pdu_given view (Err f) read again e g = sym e ∙ ap octets_in g

pub release_given : (r : Result (Unit {0}) AcFault) (read again : Result (Unit {0}) AcFault) → read ≡ again → Gives (λ (x : Unit {0}). x) r read → Gives (λ (x : Unit {0}). x) r again
release_given (Ok x) read again e g = sym e ∙ g
release_given (Err f) read again e g = sym e ∙ g

pub rlrq-anywhere : (input : Piece) → release_at RLRQ input ≡ rlrq_of input.octets
unfolding rlrq_of
rlrq-anywhere input = release-anywhere RLRQ input

pub rlre-anywhere : (input : Piece) → release_at RLRE input ≡ rlre_of input.octets
unfolding rlre_of
rlre-anywhere input = release-anywhere RLRE input
