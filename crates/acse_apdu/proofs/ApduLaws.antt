-- An APDU is read exactly where it is spelled, and refused exactly for its cause.
use Rattle.std.proofs.Common.{◌≡◌, ℕ, Bool, true, false, cond, List, [], ◌∷◌, Option, Some, None, Result, Ok, Err, refl, sym, ap, subst, ◌∙◌}
use Rattle.std.proofs.lemmas.Bool.{eq-eqb}
use Rattle.list_laws.proofs.Options.{some_is, ok_is, err_is}
use Rattle.ber_grammar.specs.Octets.{IsBytes}
use Rattle.ber_grammar.specs.Place.{Piece, Spot, content_piece}
use Rattle.ber_grammar.specs.Reader.{◌>>=◌, and_then, Gives, Reads}
use Rattle.ber_grammar.proofs.ReaderLaws.{exact_from, reads_from}
use Rattle.acse_apdu.specs.declared.codes.TheConstants.{AARQ, AARE, USER_INFORMATION, EXTERNAL}
use Rattle.acse_apdu.specs.declared.fault.AcFault.{AcFault}
use Rattle.acse_apdu.specs.declared.fault.AcFault.TheVariants.{Apdu, ContextName, NoUserInformation}
use Rattle.acse_apdu.specs.Grammar.{IsApdu, NamesMms, IsAccepted, IsExternal, Carries, IsAarq, IsAarqRefused, IsAare, IsAareRefused, IsRelease, IsReleaseRefused}
use Rattle.acse_apdu.specs.Apdu.{with_fields, apdu_at}
use Rattle.acse_apdu.specs.Contents.{names_mms, is_accepted, pdu_at}
use Rattle.acse_apdu.specs.Reading.{association_at, aarq_at, aare_at, release_at}
use Rattle.ber_grammar.proofs.OctetLaws.{Spells-bytes}
use Rattle.ber_grammar.proofs.OptionLaws.{then_some}
use Rattle.ber_grammar.proofs.FieldLaws.{HoldOctets, fields_again, fields_found, fields-hold, field-holds, only-holds, with_tag-found, whole_again, whole_found}
use Rattle.ber_grammar.specs.Element.{Element}
use Rattle.ber_grammar.specs.Fields.{AreFields, spot_in, fields_in, with_tag, whole_at, whole_in}
use Rattle.ber_grammar.specs.Steps.{required}
use Rattle.acse_apdu.proofs.ContentLaws.{names_again, names_found, accepted_again, accepted_found, pdu_again, pdu_found}

-- ---- the APDU

pub apdu_again : (tag : ℕ) (input content : Piece) → IsApdu tag input content → apdu_at tag input ≡ Some content
unfolding apdu_at
apdu_again tag input content (e, fields, spelled, is_tag, at, row) =
    let all : fields_in (content_piece (spot_in input e)) ≡ Some fields = ap fields_in (sym at) ∙ fields_again content fields row in
    rw (whole_again input.octets e spelled, eq-eqb e.tag tag is_tag, all) (ap (λ (x : Piece). Some x) (sym at))

pub apdu_found : (tag : ℕ) (input content : Piece) → apdu_at tag input ≡ Some content → IsApdu tag input content
unfolding apdu_at
apdu_found tag input content h =
    let a = then_some (whole_in input) (λ (s : Spot). and_then (with_tag tag s) with_fields) content h in
    let e = then_some (whole_at input.octets) (λ (e : Element). Some (spot_in input e)) a.0 a.1 in
    let spot : spot_in input e.0 ≡ a.0 = some_is (spot_in input e.0) a.0 e.2 in
    let b = then_some (with_tag tag a.0) with_fields content a.2 in
    let c = with_tag-found tag a.0 b.0 b.1 in
    let d = then_some (fields_in b.0) (λ (fields : List Spot). Some b.0) content b.2 in
    let at : b.0 ≡ content = some_is b.0 content d.2 in
    (e.0, d.0, whole_found input.octets e.0 e.1, ap (λ (s : Spot). s.element.tag) spot ∙ c.0, sym at ∙ c.1 ∙ ap content_piece (sym spot), subst (λ (x : Piece). AreFields x d.0) at (fields_found b.0 d.0 d.1))

pub apdu-holds : (tag : ℕ) (input content : Piece) → IsBytes input.octets → IsApdu tag input content → IsBytes content.octets
apdu-holds tag input content fits (e, fields, spelled, is_tag, at, row) = subst (λ (x : Piece). IsBytes x.octets) (sym at) (Spells-bytes input.octets e fits spelled)

-- ---- which way a test went

true_or_not : (b : Bool) (P : Type 0) → (b ≡ true → P) → (P → b ≡ true) → ¬ P → b ≡ false
true_or_not true P found again not = absurd (not (found refl))
true_or_not false P found again not = refl

is_none : {A : Type 0} (o : Option A) → ((x : A) → ¬ (o ≡ Some x)) → o ≡ None
is_none (Some x) none = absurd (none x refl)
is_none None none = refl

unnamed : (content : Piece) → ¬ NamesMms content → names_mms content ≡ false
unnamed content not = true_or_not (names_mms content) (NamesMms content) (names_found content) (names_again content) not

unaccepted : (content : Piece) → IsBytes content.octets → ¬ IsAccepted content → is_accepted content ≡ false
unaccepted content fits not = true_or_not (is_accepted content) (IsAccepted content) (accepted_found content fits) (accepted_again content) not

no_pdu : (content : Piece) → IsBytes content.octets → ((pdu : Piece) → ¬ Carries content pdu) → pdu_at content ≡ None
no_pdu content fits not = is_none (pdu_at content) (λ pdu h. not pdu (pdu_found content pdu fits h))

no_apdu : (tag : ℕ) (input : Piece) → ((content : Piece) → ¬ IsApdu tag input content) → apdu_at tag input ≡ None
no_apdu tag input not = is_none (apdu_at tag input) (λ content h. not content (apdu_found tag input content h))

-- ---- what a content says

abbrev AssociationTells : Piece → Result Piece AcFault → Type 0
AssociationTells content (Ok pdu) = NamesMms content × Carries content pdu
AssociationTells content (Err Apdu) = ⊥
AssociationTells content (Err ContextName) = ¬ NamesMms content
AssociationTells content (Err NoUserInformation) = NamesMms content × ((pdu : Piece) → ¬ Carries content pdu)

carried : (content : Piece) (o : Option Piece) → pdu_at content ≡ o → IsBytes content.octets → NamesMms content → AssociationTells content (required NoUserInformation o)
carried content (Some pdu) h fits names = (names, pdu_found content pdu fits h)
carried content None h fits names = (names, λ pdu carries. (let some = pdu_again content pdu carries in cc))

named : (content : Piece) (b : Bool) → names_mms content ≡ b → IsBytes content.octets → AssociationTells content (cond b (required NoUserInformation (pdu_at content)) (Err ContextName))
named content true h fits = carried content (pdu_at content) refl fits (names_found content h)
named content false h fits = λ names. (let accepts = names_again content names in cc)

association_tells : (content : Piece) → IsBytes content.octets → AssociationTells content (association_at content)
association_tells content fits = named content (names_mms content) refl fits

association_again : (content pdu : Piece) → NamesMms content → Carries content pdu → association_at content ≡ Ok pdu
association_again content pdu names carries = rw (names_again content names, pdu_again content pdu carries) refl

misnamed : (content : Piece) → ¬ NamesMms content → association_at content ≡ Err ContextName
misnamed content not = rw (unnamed content not) refl

carries_none : (content : Piece) → IsBytes content.octets → NamesMms content → ((pdu : Piece) → ¬ Carries content pdu) → association_at content ≡ Err NoUserInformation
carries_none content fits names not = rw (names_again content names, no_pdu content fits not) refl

-- ---- AARQ

abbrev AarqTells : Piece → Result Piece AcFault → Type 0
AarqTells input (Ok pdu) = IsAarq input pdu
AarqTells input (Err f) = IsAarqRefused input f

aarq_inside : (input content : Piece) (r : Result Piece AcFault) → IsApdu AARQ input content → AssociationTells content r → AarqTells input r
aarq_inside input content (Ok pdu) apdu h = (content, apdu, h.0, h.1)
aarq_inside input content (Err Apdu) apdu h = absurd h
aarq_inside input content (Err ContextName) apdu h = (content, apdu, h)
aarq_inside input content (Err NoUserInformation) apdu h = (content, apdu, h.0, h.1)

aarq_found : (input : Piece) (o : Option Piece) → apdu_at AARQ input ≡ o → IsBytes input.octets → AarqTells input (required Apdu o >>= λ content. association_at content)
aarq_found input (Some content) h fits =
    let apdu = apdu_found AARQ input content h in
    aarq_inside input content (association_at content) apdu (association_tells content (apdu-holds AARQ input content fits apdu))
aarq_found input None h fits = λ content apdu. (let some = apdu_again AARQ input content apdu in cc)

aarq_tells : (input : Piece) → IsBytes input.octets → AarqTells input (aarq_at input)
unfolding aarq_at
aarq_tells input fits = aarq_found input (apdu_at AARQ input) refl fits

pub aarq_again : (input pdu : Piece) → IsAarq input pdu → aarq_at input ≡ Ok pdu
unfolding aarq_at
aarq_again input pdu (content, apdu, names, carries) = rw (apdu_again AARQ input content apdu) (association_again content pdu names carries)

aarq_refused : (input : Piece) (f : AcFault) → IsBytes input.octets → IsAarqRefused input f → aarq_at input ≡ Err f
unfolding aarq_at
aarq_refused input Apdu fits h = rw (no_apdu AARQ input h) refl
aarq_refused input ContextName fits (content, apdu, not) = rw (apdu_again AARQ input content apdu) (misnamed content not)
aarq_refused input NoUserInformation fits (content, apdu, names, not) = rw (apdu_again AARQ input content apdu) (carries_none content (apdu-holds AARQ input content fits apdu) names not)

pub aarq_exact : (input : Piece) → IsBytes input.octets → Reads (λ (p : Piece). p) (aarq_at input) (IsAarq input) (IsAarqRefused input)
aarq_exact input fits = exact_from (aarq_at input) (IsAarq input) (IsAarqRefused input) (AarqTells input) (λ p h. h) (λ f h. h) (aarq_tells input fits) (aarq_again input) (λ f h. aarq_refused input f fits h)

-- ---- AARE

abbrev AareTells : Piece → Result Piece AcFault → Type 0
AareTells input (Ok pdu) = IsAare input pdu
AareTells input (Err f) = IsAareRefused input f

aare_inside : (input content : Piece) (r : Result Piece AcFault) → IsApdu AARE input content → IsAccepted content → AssociationTells content r → AareTells input r
aare_inside input content (Ok pdu) apdu accepts h = (content, apdu, accepts, h.0, h.1)
aare_inside input content (Err Apdu) apdu accepts h = absurd h
aare_inside input content (Err ContextName) apdu accepts h = (content, apdu, accepts, h)
aare_inside input content (Err NoUserInformation) apdu accepts h = (content, apdu, accepts, h.0, h.1)

aare_result : (input content : Piece) (b : Bool) → is_accepted content ≡ b → IsBytes content.octets → apdu_at AARE input ≡ Some content → AareTells input (cond b (association_at content) (Err Apdu))
aare_result input content true h fits at = aare_inside input content (association_at content) (apdu_found AARE input content at) (accepted_found content fits h) (association_tells content fits)
aare_result input content false h fits at =
    λ other apdu accepts.
    let some = apdu_again AARE input other apdu in
    let same : content ≡ other = cc in
    let accepted = accepted_again content (subst IsAccepted (sym same) accepts) in
    cc

aare_found : (input : Piece) (o : Option Piece) → apdu_at AARE input ≡ o → IsBytes input.octets → AareTells input (required Apdu o >>= λ content. cond (is_accepted content) (association_at content) (Err Apdu))
aare_found input (Some content) h fits = aare_result input content (is_accepted content) refl (apdu-holds AARE input content fits (apdu_found AARE input content h)) h
aare_found input None h fits = λ content apdu accepts. (let some = apdu_again AARE input content apdu in cc)

aare_tells : (input : Piece) → IsBytes input.octets → AareTells input (aare_at input)
unfolding aare_at
aare_tells input fits = aare_found input (apdu_at AARE input) refl fits

pub aare_again : (input pdu : Piece) → IsAare input pdu → aare_at input ≡ Ok pdu
unfolding aare_at
aare_again input pdu (content, apdu, accepts, names, carries) = rw (apdu_again AARE input content apdu, accepted_again content accepts) (association_again content pdu names carries)

aare_no : (input : Piece) (o : Option Piece) → apdu_at AARE input ≡ o → IsBytes input.octets → IsAareRefused input Apdu → (required Apdu o >>= λ content. cond (is_accepted content) (association_at content) (Err Apdu)) ≡ Err Apdu
aare_no input (Some content) h fits not =
    let apdu = apdu_found AARE input content h in
    rw (unaccepted content (apdu-holds AARE input content fits apdu) (not content apdu)) refl
aare_no input None h fits not = refl

aare_refused : (input : Piece) (f : AcFault) → IsBytes input.octets → IsAareRefused input f → aare_at input ≡ Err f
unfolding aare_at
aare_refused input Apdu fits h = aare_no input (apdu_at AARE input) refl fits h
aare_refused input ContextName fits (content, apdu, accepts, not) = rw (apdu_again AARE input content apdu, accepted_again content accepts) (misnamed content not)
aare_refused input NoUserInformation fits (content, apdu, accepts, names, not) =
    rw (apdu_again AARE input content apdu, accepted_again content accepts) (carries_none content (apdu-holds AARE input content fits apdu) names not)

pub aare_exact : (input : Piece) → IsBytes input.octets → Reads (λ (p : Piece). p) (aare_at input) (IsAare input) (IsAareRefused input)
aare_exact input fits = exact_from (aare_at input) (IsAare input) (IsAareRefused input) (AareTells input) (λ p h. h) (λ f h. h) (aare_tells input fits) (aare_again input) (λ f h. aare_refused input f fits h)

-- ---- RLRQ and RLRE

abbrev ReleaseTells : ℕ → Piece → Result (Unit {0}) AcFault → Type 0
ReleaseTells tag input (Ok x) = IsRelease tag input
ReleaseTells tag input (Err f) = IsReleaseRefused tag input f

release_found : (tag : ℕ) (input : Piece) (o : Option Piece) → apdu_at tag input ≡ o → ReleaseTells tag input (required Apdu o >>= λ content. Ok tt)
release_found tag input (Some content) h = (content, apdu_found tag input content h)
release_found tag input None h = (refl, λ (content, apdu). (let some = apdu_again tag input content apdu in cc))

release_tells : (tag : ℕ) (input : Piece) → ReleaseTells tag input (release_at tag input)
unfolding release_at
release_tells tag input = release_found tag input (apdu_at tag input) refl

pub release_again : (tag : ℕ) (input : Piece) → IsRelease tag input → release_at tag input ≡ Ok tt
unfolding release_at
release_again tag input (content, apdu) = rw (apdu_again tag input content apdu) refl

release_refused : (tag : ℕ) (input : Piece) (f : AcFault) → IsReleaseRefused tag input f → release_at tag input ≡ Err f
unfolding release_at
release_refused tag input f (e, not) = rw (no_apdu tag input (λ content apdu. not (content, apdu))) (ap (λ (x : AcFault). Err x) (sym e))

pub release_exact : (tag : ℕ) (input : Piece) → Reads (λ (x : Unit {0}). x) (release_at tag input) (λ x. IsRelease tag input) (IsReleaseRefused tag input)
release_exact tag input = exact_from (release_at tag input) (λ x. IsRelease tag input) (IsReleaseRefused tag input) (ReleaseTells tag input) (λ x h. h) (λ f h. h) (release_tells tag input) (λ x h. release_again tag input h) (release_refused tag input)

-- ---- the program's readers

pub aarq_reads : {X : Type 0} (view : X → Piece) (r : Result X AcFault) (input : Piece) → IsBytes input.octets → Gives view r (aarq_at input) → Reads view r (IsAarq input) (IsAarqRefused input)
aarq_reads view r input fits g = reads_from view r (aarq_at input) (IsAarq input) (IsAarqRefused input) (aarq_exact input fits) g

pub aare_reads : {X : Type 0} (view : X → Piece) (r : Result X AcFault) (input : Piece) → IsBytes input.octets → Gives view r (aare_at input) → Reads view r (IsAare input) (IsAareRefused input)
aare_reads view r input fits g = reads_from view r (aare_at input) (IsAare input) (IsAareRefused input) (aare_exact input fits) g

pub release_reads : (tag : ℕ) (r : Result (Unit {0}) AcFault) (input : Piece) → Gives (λ (x : Unit {0}). x) r (release_at tag input) → Reads (λ (x : Unit {0}). x) r (λ x. IsRelease tag input) (IsReleaseRefused tag input)
release_reads tag r input g = reads_from (λ (x : Unit {0}). x) r (release_at tag input) (λ x. IsRelease tag input) (IsReleaseRefused tag input) (release_exact tag input) g

-- ---- one way

pub one_aarq : (input p q : Piece) → IsAarq input p → IsAarq input q → p ≡ q
one_aarq input p q h k = ok_is {F = AcFault} p q (sym (aarq_again input p h) ∙ aarq_again input q k)

pub one_aare : (input p q : Piece) → IsAare input p → IsAare input q → p ≡ q
one_aare input p q h k = ok_is {F = AcFault} p q (sym (aare_again input p h) ∙ aare_again input q k)

pub one_aarq_cause : (input : Piece) (f g : AcFault) → IsBytes input.octets → IsAarqRefused input f → IsAarqRefused input g → f ≡ g
one_aarq_cause input f g fits h k = err_is {A = Piece} f g (sym (aarq_refused input f fits h) ∙ aarq_refused input g fits k)

pub one_aare_cause : (input : Piece) (f g : AcFault) → IsBytes input.octets → IsAareRefused input f → IsAareRefused input g → f ≡ g
one_aare_cause input f g fits h k = err_is {A = Piece} f g (sym (aare_refused input f fits h) ∙ aare_refused input g fits k)

pub aarq_not_both : (input p : Piece) (f : AcFault) → IsBytes input.octets → IsAarq input p → IsAarqRefused input f → ⊥
aarq_not_both input p f fits h k = let one = aarq_again input p h in let two = aarq_refused input f fits k in cc

pub aare_not_both : (input p : Piece) (f : AcFault) → IsBytes input.octets → IsAare input p → IsAareRefused input f → ⊥
aare_not_both input p f fits h k = let one = aare_again input p h in let two = aare_refused input f fits k in cc

-- ---- what an APDU carries are octets

external_holds : (fields : List Spot) (pdu : Piece) → HoldOctets fields → IsExternal fields pdu → IsBytes pdu.octets
external_holds [] pdu fits h = absurd h
external_holds (a ∷ []) pdu fits h = absurd h
external_holds (a ∷ b ∷ []) pdu fits (is, encoding) = subst (λ (x : Piece). IsBytes x.octets) (sym encoding.1) fits.1.0
external_holds (a ∷ b ∷ c ∷ []) pdu fits (reference, is, encoding) = subst (λ (x : Piece). IsBytes x.octets) (sym encoding.1) fits.1.1.0
external_holds (a ∷ b ∷ c ∷ d ∷ more) pdu fits h = absurd h

carries_holds : (content pdu : Piece) → IsBytes content.octets → Carries content pdu → IsBytes pdu.octets
carries_holds content pdu fits (information, external, fields, at, only, row, is) =
    external_holds fields pdu (fields-hold external fields (only-holds EXTERNAL information external (field-holds USER_INFORMATION content information fits at) only) row) is

pub aarq_holds : (input pdu : Piece) → IsBytes input.octets → IsAarq input pdu → IsBytes pdu.octets
aarq_holds input pdu fits (content, apdu, names, carries) = carries_holds content pdu (apdu-holds AARQ input content fits apdu) carries

pub aare_holds : (input pdu : Piece) → IsBytes input.octets → IsAare input pdu → IsBytes pdu.octets
aare_holds input pdu fits (content, apdu, accepted, names, carries) = carries_holds content pdu (apdu-holds AARE input content fits apdu) carries
