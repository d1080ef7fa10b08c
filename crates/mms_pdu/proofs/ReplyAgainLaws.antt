-- What is spelled of what a server sends is read, and what is refused is refused so.
use Rattle.std.proofs.Common.{◌≡◌, ◌≢◌, ℕ, ◌<◌, ◌⊎◌, ◌||◌, inl, inr, true, false, cond, eqb, List, [], ◌∷◌, length, Option, Some, None, Result, Ok, Err, refl, sym, ap, subst, ◌∙◌, arith}
use Rattle.std.proofs.lemmas.Bool.{eq-eqb, ne_eqb, or_parts}
use Rattle.std.proofs.lemmas.List.{append-nil}
use Rattle.list_laws.proofs.Options.{ok_is, err_is}
use Rattle.ber_grammar.specs.Octets.{IsBytes}
use Rattle.ber_grammar.specs.Element.{Element, Spells}
use Rattle.ber_grammar.specs.Place.{Spot, Piece, content_piece}
use Rattle.ber_grammar.specs.Reader.{Gives, Reads}
use Rattle.ber_grammar.proofs.OctetLaws.{Spells-bytes}
use Rattle.ber_grammar.proofs.ReaderLaws.{exact_from, reads_from}
use Rattle.ber_grammar.proofs.Theorems.{one_element}
use Rattle.mms_elements.specs.declared.fault.PduFault.{PduFault}
use Rattle.mms_elements.specs.declared.fault.PduFault.TheVariants.{UnknownPdu, UnknownService, Argument, Invalid, SmallSize}
use Rattle.mms_pdu.specs.Request.{is_pdu, MayBegin, may_begin}
use Rattle.ber_grammar.specs.Fields.{spot_in, whole_in}
use Rattle.mms_elements.specs.Tagged.{IsNumbered, numbered_in}
use Rattle.mms_pdu.specs.Reply.{Reply, answer, error, reject, concluded, information, reply_octets, IsService, IsServiceError, IsReason, IsReply, is_sent, IsMalformed, IsUnusable, IsReplyRefused}
use Rattle.mms_pdu.specs.ReplyReading.{service_in, answer_in, service_error_in, error_in, reason_at, reject_in, pdu_in, reply_in}
use Rattle.ber_grammar.proofs.FieldLaws.{whole_in_again, whole_in_found}
use Rattle.mms_elements.proofs.TaggedLaws.{numbered_again, numbered_found, numbered_bytes, first_octet}
use Rattle.mms_pdu.proofs.ReplyLaws.{plain, Tells, reply_tells}
use Rattle.mms_pdu.proofs.ReplyPartLaws.{service_again, service_found, service_error_again, service_error_found, reason_again, reason_found}

-- ---- what is spelled is read

begins_again : (octets : List ℕ) (e : Element) → Spells octets e → e.tag < 256 → is_pdu e.tag ≡ true → may_begin is_pdu octets ≡ true
begins_again octets e s small h = let a = first_octet octets e s small in ap (may_begin is_pdu) a.1 ∙ h

at_element : (p : Piece) (e : Element) → Spells p.octets e → e.tag < 256 → is_pdu e.tag ≡ true → reply_in p ≡ pdu_in p (spot_in p e)
unfolding reply_in
at_element p e s small h = rw (begins_again p.octets e s small h, whole_in_again p e s) refl

answer_pdu : (p : Piece) (s : Spot) → s.element.tag ≡ 161 → pdu_in p s ≡ answer_in (content_piece s)
unfolding pdu_in
answer_pdu p s t = rw (eq-eqb s.element.tag 161 t) refl

error_pdu : (p : Piece) (s : Spot) → s.element.tag ≡ 162 → pdu_in p s ≡ error_in (content_piece s)
unfolding pdu_in
error_pdu p s t = rw (ne_eqb s.element.tag 161 (omega (arith, t)), eq-eqb s.element.tag 162 t) refl

information_pdu : (p : Piece) (s : Spot) → s.element.tag ≡ 163 → pdu_in p s ≡ Ok (information p)
unfolding pdu_in
information_pdu p s t = rw (ne_eqb s.element.tag 161 (omega (arith, t)), ne_eqb s.element.tag 162 (omega (arith, t)), eq-eqb s.element.tag 163 t) refl

reject_pdu : (p : Piece) (s : Spot) → s.element.tag ≡ 164 → pdu_in p s ≡ reject_in (content_piece s)
unfolding pdu_in
reject_pdu p s t = rw (ne_eqb s.element.tag 161 (omega (arith, t)), ne_eqb s.element.tag 162 (omega (arith, t)), ne_eqb s.element.tag 163 (omega (arith, t)), eq-eqb s.element.tag 164 t) refl

concluded_pdu : (p : Piece) (s : Spot) → s.element.tag ≡ 140 → pdu_in p s ≡ cond (eqb (length s.element.content) 0) (Ok concluded) (Err Invalid)
unfolding pdu_in
concluded_pdu p s t =
    rw (ne_eqb s.element.tag 161 (omega (arith, t)), ne_eqb s.element.tag 162 (omega (arith, t)), ne_eqb s.element.tag 163 (omega (arith, t)), ne_eqb s.element.tag 164 (omega (arith, t)), eq-eqb s.element.tag 140 t) refl

listed : (tag : ℕ) → ((tag ≡ 161) ⊎ ((tag ≡ 162) ⊎ ((tag ≡ 163) ⊎ ((tag ≡ 164) ⊎ (tag ≡ 140))))) → (tag < 256) × (is_pdu tag ≡ true)
listed tag (inl t) = (omega (arith, t), ap is_pdu t)
listed tag (inr (inl t)) = (omega (arith, t), ap is_pdu t)
listed tag (inr (inr (inl t))) = (omega (arith, t), ap is_pdu t)
listed tag (inr (inr (inr (inl t)))) = (omega (arith, t), ap is_pdu t)
listed tag (inr (inr (inr (inr t)))) = (omega (arith, t), ap is_pdu t)

-- what the element that the octets are is read as
to_answer : (p : Piece) (e : Element) → Spells p.octets e → e.tag ≡ 161 → reply_in p ≡ answer_in (content_piece (spot_in p e))
to_answer p e s t = let l = listed e.tag (inl t) in at_element p e s l.0 l.1 ∙ answer_pdu p (spot_in p e) t

to_error : (p : Piece) (e : Element) → Spells p.octets e → e.tag ≡ 162 → reply_in p ≡ error_in (content_piece (spot_in p e))
to_error p e s t = let l = listed e.tag (inr (inl t)) in at_element p e s l.0 l.1 ∙ error_pdu p (spot_in p e) t

to_information : (p : Piece) (e : Element) → Spells p.octets e → e.tag ≡ 163 → reply_in p ≡ Ok (information p)
to_information p e s t = let l = listed e.tag (inr (inr (inl t))) in at_element p e s l.0 l.1 ∙ information_pdu p (spot_in p e) t

to_reject : (p : Piece) (e : Element) → Spells p.octets e → e.tag ≡ 164 → reply_in p ≡ reject_in (content_piece (spot_in p e))
to_reject p e s t = let l = listed e.tag (inr (inr (inr (inl t)))) in at_element p e s l.0 l.1 ∙ reject_pdu p (spot_in p e) t

to_concluded : (p : Piece) (e : Element) → Spells p.octets e → e.tag ≡ 140 → reply_in p ≡ cond (eqb (length e.content) 0) (Ok concluded) (Err Invalid)
to_concluded p e s t = let l = listed e.tag (inr (inr (inr (inr t)))) in at_element p e s l.0 l.1 ∙ concluded_pdu p (spot_in p e) t

answer_again : (p : Piece) (invoke tag : ℕ) (body rest : List ℕ) → IsBytes p.octets → IsNumbered 2 p.octets invoke rest → IsService rest tag body → plain (answer_in p) ≡ Ok (answer invoke tag body)
unfolding answer_in
answer_again p invoke tag body rest fits number service =
    let a = numbered_again 2 p invoke rest number in
    let at : IsService a.0.octets tag body = subst (λ (x : List ℕ). IsService x tag body) (sym a.2) service in
    let b = service_again a.0 tag body (subst IsBytes (sym a.2) (numbered_bytes 2 p.octets invoke rest fits number)) at in
    rw (a.1, b.1) (ap (λ (x : List ℕ). Ok (answer invoke tag x)) b.2)

error_again : (p : Piece) (invoke class code : ℕ) (rest : List ℕ) → IsNumbered 128 p.octets invoke rest → IsServiceError rest class code → plain (error_in p) ≡ Ok (error invoke class code)
unfolding error_in
error_again p invoke class code rest number failure =
    let a = numbered_again 128 p invoke rest number in
    let b = service_error_again a.0 class code (subst (λ (x : List ℕ). IsServiceError x class code) (sym a.2) failure) in
    rw (a.1, b) refl

numbered_reject_again : (p : Piece) (invoke code : ℕ) (rest : List ℕ) → IsNumbered 128 p.octets invoke rest → IsReason rest code → plain (reject_in p) ≡ Ok (reject (Some invoke) code)
unfolding reject_in
numbered_reject_again p invoke code rest number reason =
    let a = numbered_again 128 p invoke rest number in
    let b : reason_at a.0.octets ≡ Some code = reason_again a.0.octets code (subst (λ (x : List ℕ). IsReason x code) (sym a.2) reason) in
    rw (a.1, b) refl

-- a reason is no invoke number
reason_alone : (octets : List ℕ) (code invoke : ℕ) (rest : List ℕ) → IsReason octets code → IsNumbered 128 octets invoke rest → ⊥
reason_alone octets code invoke rest (e, s, least, most, is) (d, b, number) =
    let same = one_element octets d e rest [] b (octets, s, sym (append-nil octets)) in
    omega (arith, least, number.0, ap (λ (x : Element). x.tag) same.0)

numbered_not : (tag : ℕ) (p : Piece) → IsBytes p.octets → ((n : ℕ) (rest : List ℕ) → ¬ IsNumbered tag p.octets n rest) → numbered_in tag p ≡ None
numbered_not tag p fits none = step (numbered_in tag p) refl
  where
    step : (o : Option (ℕ × Piece)) → numbered_in tag p ≡ o → o ≡ None
    step None h = refl
    step (Some x) h = absurd (none x.0 x.1.octets (numbered_found tag p x.0 x.1 fits h))

bare_reject_again : (p : Piece) (code : ℕ) → IsBytes p.octets → IsReason p.octets code → plain (reject_in p) ≡ Ok (reject None code)
unfolding reject_in
bare_reject_again p code fits reason =
    rw (numbered_not 128 p fits (λ n rest is. reason_alone p.octets code n rest reason is), reason_again p.octets code reason) refl

pub reply_again : (p : Piece) (r : Reply (List ℕ)) → IsBytes p.octets → IsReply p.octets r → plain (reply_in p) ≡ Ok r
reply_again p (answer invoke tag body) fits (e, s, (t, rest, number, service)) = ap plain (to_answer p e s t) ∙ answer_again (content_piece (spot_in p e)) invoke tag body rest (Spells-bytes p.octets e fits s) number service
reply_again p (error invoke class code) fits (e, s, (t, rest, number, failure)) = ap plain (to_error p e s t) ∙ error_again (content_piece (spot_in p e)) invoke class code rest number failure
reply_again p (reject (Some invoke) code) fits (e, s, (t, rest, number, reason)) = ap plain (to_reject p e s t) ∙ numbered_reject_again (content_piece (spot_in p e)) invoke code rest number reason
reply_again p (reject None code) fits (e, s, (t, reason)) = ap plain (to_reject p e s t) ∙ bare_reject_again (content_piece (spot_in p e)) code (Spells-bytes p.octets e fits s) reason
reply_again p concluded fits (e, s, (t, none)) = ap plain (to_concluded p e s t) ∙ rw none refl
reply_again p (information pdu) fits (e, s, (t, is)) = ap plain (to_information p e s t) ∙ ap (λ (x : List ℕ). Ok (information x)) (sym is)

-- ---- what is refused is refused so

no_service : (q : Piece) → IsBytes q.octets → ((tag : ℕ) (body : List ℕ) → ¬ IsService q.octets tag body) → service_in q ≡ None
no_service q fits none = step (service_in q) refl
  where
    step : (o : Option (ℕ × Piece)) → service_in q ≡ o → o ≡ None
    step None h = refl
    step (Some x) h = absurd (none x.0 x.1.octets (service_found q x.0 x.1 fits h))

answer_malformed : (q : Piece) (invoke : ℕ) (rest : List ℕ) → IsBytes q.octets → IsNumbered 2 q.octets invoke rest → ((tag : ℕ) (body : List ℕ) → ¬ IsService rest tag body) → plain (answer_in q) ≡ Err (Argument invoke)
unfolding answer_in
answer_malformed q invoke rest fits number none =
    let a = numbered_again 2 q invoke rest number in
    let b = no_service a.0 (subst IsBytes (sym a.2) (numbered_bytes 2 q.octets invoke rest fits number)) (λ tag body. subst (λ (x : List ℕ). ¬ IsService x tag body) (sym a.2) (none tag body)) in
    rw (a.1, b) refl

no_error : (q : Piece) → IsBytes q.octets → ((class code : ℕ) → ¬ IsServiceError q.octets class code) → service_error_in q ≡ None
no_error q fits none = step (service_error_in q) refl
  where
    step : (o : Option (ℕ × ℕ)) → service_error_in q ≡ o → o ≡ None
    step None h = refl
    step (Some x) h = absurd (none x.0 x.1 (service_error_found q x.0 x.1 fits h))

error_malformed : (q : Piece) (invoke : ℕ) (rest : List ℕ) → IsBytes q.octets → IsNumbered 128 q.octets invoke rest → ((class code : ℕ) → ¬ IsServiceError rest class code) → plain (error_in q) ≡ Err (Argument invoke)
unfolding error_in
error_malformed q invoke rest fits number none =
    let a = numbered_again 128 q invoke rest number in
    let b = no_error a.0 (subst IsBytes (sym a.2) (numbered_bytes 128 q.octets invoke rest fits number)) (λ class code. subst (λ (x : List ℕ). ¬ IsServiceError x class code) (sym a.2) (none class code)) in
    rw (a.1, b) refl

no_reason : (octets : List ℕ) → IsBytes octets → ((code : ℕ) → ¬ IsReason octets code) → reason_at octets ≡ None
no_reason octets fits none = step (reason_at octets) refl
  where
    step : (o : Option ℕ) → reason_at octets ≡ o → o ≡ None
    step None h = refl
    step (Some x) h = absurd (none x (reason_found octets x fits h))

reject_malformed : (q : Piece) (invoke : ℕ) (rest : List ℕ) → IsBytes q.octets → IsNumbered 128 q.octets invoke rest → ((code : ℕ) → ¬ IsReason rest code) → plain (reject_in q) ≡ Err (Argument invoke)
unfolding reject_in
reject_malformed q invoke rest fits number none =
    let a = numbered_again 128 q invoke rest number in
    let b = no_reason a.0.octets (subst IsBytes (sym a.2) (numbered_bytes 128 q.octets invoke rest fits number)) (λ code. subst (λ (x : List ℕ). ¬ IsReason x code) (sym a.2) (none code)) in
    rw (a.1, b) refl

malformed_again : (p : Piece) (e : Element) (invoke : ℕ) → IsBytes p.octets → Spells p.octets e → IsMalformed e invoke → plain (reply_in p) ≡ Err (Argument invoke)
malformed_again p e invoke fits s (rest, inl (t, number, none)) = ap plain (to_answer p e s t) ∙ answer_malformed (content_piece (spot_in p e)) invoke rest (Spells-bytes p.octets e fits s) number none
malformed_again p e invoke fits s (rest, inr (inl (t, number, none))) = ap plain (to_error p e s t) ∙ error_malformed (content_piece (spot_in p e)) invoke rest (Spells-bytes p.octets e fits s) number none
malformed_again p e invoke fits s (rest, inr (inr (t, number, none))) = ap plain (to_reject p e s t) ∙ reject_malformed (content_piece (spot_in p e)) invoke rest (Spells-bytes p.octets e fits s) number none

-- ---- a PDU that is no use

answer_unnumbered : (q : Piece) → IsBytes q.octets → ((invoke : ℕ) (rest : List ℕ) → ¬ IsNumbered 2 q.octets invoke rest) → plain (answer_in q) ≡ Err Invalid
unfolding answer_in
answer_unnumbered q fits none = rw (numbered_not 2 q fits none) refl

error_unnumbered : (q : Piece) → IsBytes q.octets → ((invoke : ℕ) (rest : List ℕ) → ¬ IsNumbered 128 q.octets invoke rest) → plain (error_in q) ≡ Err Invalid
unfolding error_in
error_unnumbered q fits none = rw (numbered_not 128 q fits none) refl

reject_unnumbered : (q : Piece) → IsBytes q.octets → ((invoke : ℕ) (rest : List ℕ) → ¬ IsNumbered 128 q.octets invoke rest) → ((code : ℕ) → ¬ IsReason q.octets code) → plain (reject_in q) ≡ Err Invalid
unfolding reject_in
reject_unnumbered q fits none bare = rw (numbered_not 128 q fits none, no_reason q.octets fits bare) refl

sent_parts : (tag : ℕ) → is_sent tag ≡ false → (eqb tag 161 ≡ false) × (eqb tag 162 ≡ false) × (eqb tag 163 ≡ false) × (eqb tag 164 ≡ false) × (eqb tag 140 ≡ false)
sent_parts tag h =
    let a = or_parts (((eqb tag 161 || eqb tag 162) || eqb tag 163) || eqb tag 164) (eqb tag 140) h in
    let b = or_parts ((eqb tag 161 || eqb tag 162) || eqb tag 163) (eqb tag 164) a.0 in
    let c = or_parts (eqb tag 161 || eqb tag 162) (eqb tag 163) b.0 in
    let d = or_parts (eqb tag 161) (eqb tag 162) c.0 in
    (d.0, d.1, c.1, b.1, a.1)

unsent_pdu : (p : Piece) (s : Spot) → is_sent s.element.tag ≡ false → pdu_in p s ≡ Err Invalid
unfolding pdu_in
unsent_pdu p s h = let a = sent_parts s.element.tag h in rw (a.0, a.1, a.2, a.3, a.4) refl

begun : (octets : List ℕ) → MayBegin is_pdu octets → may_begin is_pdu octets ≡ true
begun [] h = refl
begun (a ∷ rest) h = h

at_begun : (p : Piece) (e : Element) → MayBegin is_pdu p.octets → Spells p.octets e → reply_in p ≡ pdu_in p (spot_in p e)
unfolding reply_in
at_begun p e h s = rw (begun p.octets h, whole_in_again p e s) refl

content_some : (content : List ℕ) → content ≢ [] → eqb (length content) 0 ≡ false
content_some [] ne = absurd (ne refl)
content_some (a ∷ rest) ne = ne_eqb (length (a ∷ rest)) 0 (omega arith)

unusable_again : (p : Piece) (e : Element) → IsBytes p.octets → MayBegin is_pdu p.octets → Spells p.octets e → IsUnusable e → plain (reply_in p) ≡ Err Invalid
unusable_again p e fits h s (inl (t, none)) = ap plain (to_answer p e s t) ∙ answer_unnumbered (content_piece (spot_in p e)) (Spells-bytes p.octets e fits s) none
unusable_again p e fits h s (inr (inl (t, none))) = ap plain (to_error p e s t) ∙ error_unnumbered (content_piece (spot_in p e)) (Spells-bytes p.octets e fits s) none
unusable_again p e fits h s (inr (inr (inl (t, none, bare)))) = ap plain (to_reject p e s t) ∙ reject_unnumbered (content_piece (spot_in p e)) (Spells-bytes p.octets e fits s) none bare
unusable_again p e fits h s (inr (inr (inr (inl (t, some))))) = ap plain (to_concluded p e s t) ∙ rw (content_some e.content some) refl
unusable_again p e fits h s (inr (inr (inr (inr unsent)))) = ap plain (at_begun p e h s ∙ unsent_pdu p (spot_in p e) unsent)

no_element : (p : Piece) → MayBegin is_pdu p.octets → ((e : Element) → ¬ Spells p.octets e) → plain (reply_in p) ≡ Err Invalid
unfolding reply_in
no_element p h none = rw (begun p.octets h, step (whole_in p) refl) refl
  where
    step : (o : Option Spot) → whole_in p ≡ o → o ≡ None
    step None h = refl
    step (Some x) h = absurd (none x.element (whole_in_found p x h))

unknown_again : (p : Piece) (a : ℕ) (rest : List ℕ) → p.octets ≡ a ∷ rest → is_pdu a ≡ false → plain (reply_in p) ≡ Err UnknownPdu
unfolding reply_in
unknown_again p a rest e h = rw (e, h) refl

pub refused_again : (p : Piece) (f : PduFault) → IsBytes p.octets → IsReplyRefused p.octets f → plain (reply_in p) ≡ Err f
refused_again p UnknownPdu fits (a, rest, e, h) = unknown_again p a rest e h
refused_again p (Argument invoke) fits (e, s, h) = malformed_again p e invoke fits s h
refused_again p Invalid fits (h, inl none) = no_element p h none
refused_again p Invalid fits (h, inr (e, s, is)) = unusable_again p e fits h s is
refused_again p (UnknownService invoke) fits h = absurd h
refused_again p (SmallSize size) fits h = absurd h

-- ---- the reader

abbrev PlainTells : List ℕ → Result (Reply (List ℕ)) PduFault → Type 0
PlainTells input (Ok r) = IsReply input r
PlainTells input (Err f) = IsReplyRefused input f

plain_tells : (input : List ℕ) (r : Result (Reply Piece) PduFault) → Tells input r → PlainTells input (plain r)
plain_tells input (Ok r) h = h
plain_tells input (Err f) h = h

plain_gives : {X : Type 0} (view : X → Reply Piece) (r : Result X PduFault) (read : Result (Reply Piece) PduFault) → Gives view r read → Gives (λ x. reply_octets (view x)) r (plain read)
plain_gives view (Ok x) read g = ap plain g
plain_gives view (Err f) read g = ap plain g

pub reply_reads : {X : Type 0} (view : X → Reply Piece) (r : Result X PduFault) (p : Piece) → IsBytes p.octets → Gives view r (reply_in p) → Reads (λ x. reply_octets (view x)) r (IsReply p.octets) (IsReplyRefused p.octets)
reply_reads view r p fits g =
    reads_from (λ x. reply_octets (view x)) r (plain (reply_in p)) (IsReply p.octets) (IsReplyRefused p.octets)
    (exact_from (plain (reply_in p)) (IsReply p.octets) (IsReplyRefused p.octets) (PlainTells p.octets) (λ y h. h) (λ f h. h) (plain_tells p.octets (reply_in p) (reply_tells p fits))
    (λ y h. reply_again p y fits h)
    (λ f h. refused_again p f fits h))
    (plain_gives view r (reply_in p) g)

-- ---- one thing or one cause

-- the octets, somewhere
abbrev somewhere : List ℕ → Piece
somewhere octets = record { octets = octets; block = 0; place = 0 }

pub one_reply : (input : List ℕ) (x y : Reply (List ℕ)) → IsBytes input → IsReply input x → IsReply input y → x ≡ y
one_reply input x y fits p q = ok_is {F = PduFault} x y (sym (reply_again (somewhere input) x fits p) ∙ reply_again (somewhere input) y fits q)

pub one_fault : (input : List ℕ) (f g : PduFault) → IsBytes input → IsReplyRefused input f → IsReplyRefused input g → f ≡ g
one_fault input f g fits p q = err_is {A = Reply (List ℕ)} f g (sym (refused_again (somewhere input) f fits p) ∙ refused_again (somewhere input) g fits q)

pub not_both : (input : List ℕ) (x : Reply (List ℕ)) (f : PduFault) → IsBytes input → IsReply input x → IsReplyRefused input f → ⊥
not_both input x f fits p q = let one = reply_again (somewhere input) x fits p in let two = refused_again (somewhere input) f fits q in cc

pub read_or_refused : (input : List ℕ) → IsBytes input → ((x : Reply (List ℕ)) × IsReply input x) ⊎ ((f : PduFault) × IsReplyRefused input f)
read_or_refused input fits = either (reply_in (somewhere input)) (reply_tells (somewhere input) fits)
  where
    either : (r : Result (Reply Piece) PduFault) → Tells input r → ((x : Reply (List ℕ)) × IsReply input x) ⊎ ((f : PduFault) × IsReplyRefused input f)
    either (Ok r) h = inl (reply_octets r, h)
    either (Err f) h = inr (f, h)
