-- What is read of what a server sends is what it spells, and so for each refusal.
use Rattle.std.proofs.Common.{◌≡◌, ℕ, inl, inr, true, false, cond, eqb, List, [], ◌∷◌, length, Option, Some, None, Result, Ok, Err, refl, sym, ap, ◌∙◌}
use Rattle.std.proofs.lemmas.Bool.{eqb-true, eqb-false, cond_both}
use Rattle.std.proofs.lemmas.List.{nil_from_length}
use Rattle.ber_grammar.specs.Octets.{IsBytes}
use Rattle.ber_grammar.specs.Element.{Spells}
use Rattle.ber_grammar.specs.Place.{Spot, Piece, content_piece}
use Rattle.ber_grammar.specs.Reader.{◌>>=◌}
use Rattle.ber_grammar.proofs.OctetLaws.{Spells-bytes}
use Rattle.mms_elements.specs.declared.fault.PduFault.{PduFault}
use Rattle.mms_elements.specs.declared.fault.PduFault.TheVariants.{UnknownPdu, Argument, Invalid}
use Rattle.mms_pdu.specs.Request.{is_pdu, MayBegin, may_begin, or_fault}
use Rattle.ber_grammar.specs.Fields.{spot_in, whole_in}
use Rattle.mms_elements.specs.Tagged.{IsNumbered, numbered_in}
use Rattle.mms_pdu.specs.Reply.{Reply, answer, error, reject, concluded, information, reply_octets, IsReply, is_sent, IsUnusable, IsReplyRefused}
use Rattle.mms_pdu.specs.ReplyReading.{service_in, answer_in, service_error_in, error_in, reason_at, rejected, reject_in, pdu_in, reply_in}
use Rattle.ber_grammar.proofs.FieldLaws.{whole_in_again, whole_in_found}
use Rattle.mms_elements.proofs.TaggedLaws.{numbered_found, numbered_none, numbered_bytes}
use Rattle.mms_pdu.proofs.ReplyPartLaws.{service_again, service_found, service_error_again, service_error_found, reason_again, reason_found}
use Rattle.list_laws.proofs.Options.{none_some as nothing}

-- without where the octets lie
abbrev pub plain : Result (Reply Piece) PduFault → Result (Reply (List ℕ)) PduFault
plain (Ok r) = Ok (reply_octets r)
plain (Err f) = Err f

-- ---- what is read

abbrev pub Tells : List ℕ → Result (Reply Piece) PduFault → Type 0
Tells input (Ok r) = IsReply input (reply_octets r)
Tells input (Err f) = IsReplyRefused input f

-- an element of the input, which begins as a PDU does
record IsHere (input : List ℕ) (s : Spot) : Type 0 where
  spells : Spells input s.element
  begins : MayBegin is_pdu input
  fits : IsBytes s.element.content

unusable : (input : List ℕ) (s : Spot) → IsHere input s → IsUnusable s.element → Tells input (Err Invalid)
unusable input s here h = (here.begins, inr (s.element, here.spells, h))

service_tells : (input : List ℕ) (s : Spot) (invoke : ℕ) (q : Piece) (o : Option (ℕ × Piece)) → IsHere input s → s.element.tag ≡ 161 → IsNumbered 2 s.element.content invoke q.octets → service_in q ≡ o
    → Tells input (or_fault o (Argument invoke) >>= λ t. Ok (answer invoke t.0 t.1))
service_tells input s invoke q None here tag number h =
    let fits = numbered_bytes 2 s.element.content invoke q.octets here.fits number in
    (s.element, here.spells, (q.octets, inl (tag, number, λ t body is. let a = service_again q t body fits is in nothing (t, a.0) (sym h ∙ a.1))))
service_tells input s invoke q (Some t) here tag number h =
    (s.element, here.spells, (tag, q.octets, number, service_found q t.0 t.1 (numbered_bytes 2 s.element.content invoke q.octets here.fits number) h))

answer_tells : (input : List ℕ) (s : Spot) → IsHere input s → s.element.tag ≡ 161 → Tells input (answer_in (content_piece s))
unfolding answer_in
answer_tells input s here tag = step (numbered_in 2 (content_piece s)) refl
  where
    step : (o : Option (ℕ × Piece)) → numbered_in 2 (content_piece s) ≡ o → Tells input (or_fault o Invalid >>= λ x. or_fault (service_in x.1) (Argument x.0) >>= λ t. Ok (answer x.0 t.0 t.1))
    step None h = unusable input s here (inl (tag, numbered_none 2 (content_piece s) h))
    step (Some x) h = service_tells input s x.0 x.1 (service_in x.1) here tag (numbered_found 2 (content_piece s) x.0 x.1 here.fits h) refl

failure_tells : (input : List ℕ) (s : Spot) (invoke : ℕ) (q : Piece) (o : Option (ℕ × ℕ)) → IsHere input s → s.element.tag ≡ 162 → IsNumbered 128 s.element.content invoke q.octets → service_error_in q ≡ o
    → Tells input (or_fault o (Argument invoke) >>= λ f. Ok (error invoke f.0 f.1))
failure_tells input s invoke q None here tag number h =
    (s.element, here.spells, (q.octets, inr (inl (tag, number, λ class code is. nothing (class, code) (sym h ∙ service_error_again q class code is)))))
failure_tells input s invoke q (Some f) here tag number h =
    (s.element, here.spells, (tag, q.octets, number, service_error_found q f.0 f.1 (numbered_bytes 128 s.element.content invoke q.octets here.fits number) h))

error_tells : (input : List ℕ) (s : Spot) → IsHere input s → s.element.tag ≡ 162 → Tells input (error_in (content_piece s))
unfolding error_in
error_tells input s here tag = step (numbered_in 128 (content_piece s)) refl
  where
    step : (o : Option (ℕ × Piece)) → numbered_in 128 (content_piece s) ≡ o → Tells input (or_fault o Invalid >>= λ x. or_fault (service_error_in x.1) (Argument x.0) >>= λ f. Ok (error x.0 f.0 f.1))
    step None h = unusable input s here (inr (inl (tag, numbered_none 128 (content_piece s) h)))
    step (Some x) h = failure_tells input s x.0 x.1 (service_error_in x.1) here tag (numbered_found 128 (content_piece s) x.0 x.1 here.fits h) refl

reason_tells : (input : List ℕ) (s : Spot) (invoke : ℕ) (rest : List ℕ) (o : Option ℕ) → IsHere input s → s.element.tag ≡ 164 → IsNumbered 128 s.element.content invoke rest → reason_at rest ≡ o
    → Tells input (or_fault o (Argument invoke) >>= λ code. Ok (reject (Some invoke) code))
reason_tells input s invoke rest None here tag number h =
    (s.element, here.spells, (rest, inr (inr (tag, number, λ code is. nothing code (sym h ∙ reason_again rest code is)))))
reason_tells input s invoke rest (Some code) here tag number h =
    (s.element, here.spells, (tag, rest, number, reason_found rest code (numbered_bytes 128 s.element.content invoke rest here.fits number) h))

bare_tells : (input : List ℕ) (s : Spot) (o : Option ℕ) → IsHere input s → s.element.tag ≡ 164 → ((invoke : ℕ) (rest : List ℕ) → ¬ IsNumbered 128 s.element.content invoke rest) → reason_at s.element.content ≡ o
    → Tells input (or_fault o Invalid >>= λ code. Ok (reject None code))
bare_tells input s None here tag none h = unusable input s here (inr (inr (inl (tag, none, λ code is. nothing code (sym h ∙ reason_again s.element.content code is)))))
bare_tells input s (Some code) here tag none h = (s.element, here.spells, (tag, reason_found s.element.content code here.fits h))

reject_tells : (input : List ℕ) (s : Spot) → IsHere input s → s.element.tag ≡ 164 → Tells input (reject_in (content_piece s))
unfolding reject_in
reject_tells input s here tag = step (numbered_in 128 (content_piece s)) refl
  where
    step : (o : Option (ℕ × Piece)) → numbered_in 128 (content_piece s) ≡ o → Tells input (rejected (content_piece s) o)
    step None h = bare_tells input s (reason_at s.element.content) here tag (numbered_none 128 (content_piece s) h) refl
    step (Some x) h = reason_tells input s x.0 x.1.octets (reason_at x.1.octets) here tag (numbered_found 128 (content_piece s) x.0 x.1 here.fits h) refl

concluded_tells : (input : List ℕ) (s : Spot) → IsHere input s → s.element.tag ≡ 140 → Tells input (cond (eqb (length s.element.content) 0) (Ok concluded) (Err Invalid))
concluded_tells input s here tag =
    cond_both (eqb (length s.element.content) 0) (Ok concluded) (Err Invalid) (Tells input)
    (λ e. (s.element, here.spells, (tag, nil_from_length s.element.content (eqb-true (length s.element.content) 0 e))))
    (λ e. unusable input s here (inr (inr (inr (inl (tag, λ none. eqb-false (length s.element.content) 0 e (ap length none)))))))

abbrev pub beyond_140 : Spot → Result (Reply Piece) PduFault
beyond_140 s = cond (eqb s.element.tag 140) (cond (eqb (length s.element.content) 0) (Ok concluded) (Err Invalid)) (Err Invalid)

abbrev pub beyond_164 : Spot → Result (Reply Piece) PduFault
beyond_164 s = cond (eqb s.element.tag 164) (reject_in (content_piece s)) (beyond_140 s)

abbrev pub beyond_163 : Piece → Spot → Result (Reply Piece) PduFault
beyond_163 p s = cond (eqb s.element.tag 163) (Ok (information p)) (beyond_164 s)

abbrev pub beyond_162 : Piece → Spot → Result (Reply Piece) PduFault
beyond_162 p s = cond (eqb s.element.tag 162) (error_in (content_piece s)) (beyond_163 p s)

not_sent : (tag : ℕ) → eqb tag 161 ≡ false → eqb tag 162 ≡ false → eqb tag 163 ≡ false → eqb tag 164 ≡ false → eqb tag 140 ≡ false → is_sent tag ≡ false
not_sent tag a b c d e = rw (a, b, c, d, e) refl

pdu_tells : (p : Piece) (s : Spot) → IsHere p.octets s → Tells p.octets (pdu_in p s)
unfolding pdu_in
pdu_tells p s here =
    let tag : ℕ = s.element.tag in
    cond_both (eqb tag 161) (answer_in (content_piece s)) (beyond_162 p s) (Tells p.octets) (λ e. answer_tells p.octets s here (eqb-true tag 161 e))
    (λ a. cond_both (eqb tag 162) (error_in (content_piece s)) (beyond_163 p s) (Tells p.octets) (λ e. error_tells p.octets s here (eqb-true tag 162 e))
    (λ b. cond_both (eqb tag 163) (Ok (information p)) (beyond_164 s) (Tells p.octets) (λ e. (s.element, here.spells, (eqb-true tag 163 e, refl)))
    (λ c. cond_both (eqb tag 164) (reject_in (content_piece s)) (beyond_140 s) (Tells p.octets) (λ e. reject_tells p.octets s here (eqb-true tag 164 e))
    (λ d. cond_both (eqb tag 140) (cond (eqb (length s.element.content) 0) (Ok concluded) (Err Invalid)) (Err Invalid) (Tells p.octets) (λ e. concluded_tells p.octets s here (eqb-true tag 140 e))
    (λ e. unusable p.octets s here (inr (inr (inr (inr (not_sent tag a b c d e))))))))))

begins_so : (octets : List ℕ) → may_begin is_pdu octets ≡ true → MayBegin is_pdu octets
begins_so [] h = tt
begins_so (a ∷ rest) h = h

unknown_so : (octets : List ℕ) → may_begin is_pdu octets ≡ false → IsReplyRefused octets UnknownPdu
unknown_so [] h = absurd cc
unknown_so (a ∷ rest) h = (a, rest, refl, h)

whole_tells : (p : Piece) (o : Option Spot) → IsBytes p.octets → may_begin is_pdu p.octets ≡ true → whole_in p ≡ o → Tells p.octets (or_fault o Invalid >>= pdu_in p)
whole_tells p None fits begins h = (begins_so p.octets begins, inl (λ e s. nothing (spot_in p e) (sym h ∙ whole_in_again p e s)))
whole_tells p (Some s) fits begins h =
    let spells = whole_in_found p s h in
    pdu_tells p s (record { spells = spells; begins = begins_so p.octets begins; fits = Spells-bytes p.octets s.element fits spells })

pub reply_tells : (p : Piece) → IsBytes p.octets → Tells p.octets (reply_in p)
unfolding reply_in
reply_tells p fits =
    cond_both (may_begin is_pdu p.octets) (or_fault (whole_in p) Invalid >>= pdu_in p) (Err UnknownPdu) (Tells p.octets)
    (λ e. whole_tells p (whole_in p) fits e refl)
    (λ e. unknown_so p.octets e)
