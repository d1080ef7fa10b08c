-- Where lies what is given back of what a server sends.
use Rattle.std.proofs.Common.{◌≡◌, ℕ, ◌+◌, ◌≤◌, cond, eqb, List, [], length, Option, Some, None, Result, Ok, Err, refl, sym, ap, subst, ◌∙◌, arith}
use Rattle.std.specs.Prelude.{IfOk}
use Rattle.std.specs.Borrow.{Bor}
use Rattle.std.proofs.lemmas.Bool.{cond_both}
use Rattle.std.proofs.lemmas.List.{append-nil}
use Rattle.list_laws.proofs.Options.{some_is, chosen}
use Rattle.ber_grammar.specs.Element.{Spells}
use Rattle.ber_grammar.specs.Place.{Spot, Piece, piece, content_piece}
use Rattle.ber_grammar.specs.Reader.{◌>>=◌, Gives, and_then, kept}
use Rattle.ber_grammar.specs.Reading.{first_at}
use Rattle.ber_grammar.proofs.OptionLaws.{kept_some, then_some}
use Rattle.ber_grammar.proofs.ElementLaws.{Begins-length}
use Rattle.mms_elements.specs.declared.fault.PduFault.{PduFault}
use Rattle.mms_elements.specs.declared.fault.PduFault.TheVariants.{UnknownPdu, Argument, Invalid}
use Rattle.mms_pdu.specs.declared.reply_view.ReplyView.{ReplyView}
use Rattle.mms_pdu.specs.declared.reply_view.ReplyView.TheVariants.{Answer, Error, Reject, Concluded, Information}
use Rattle.mms_pdu.specs.Request.{is_pdu, may_begin, or_fault}
use Rattle.ber_grammar.specs.Fields.{spot_in, whole_at, whole_in}
use Rattle.mms_elements.specs.Tagged.{number_at, behind, first_in, numbered_in}
use Rattle.mms_pdu.specs.Answer.{is_answer_body}
use Rattle.mms_pdu.specs.Reply.{Reply, answer, error, reject, concluded, information}
use Rattle.mms_pdu.specs.ReplyReading.{service_in, answer_in, service_error_in, error_in, reason_at, rejected, reject_in, pdu_in, reply_in}
use Rattle.mms_pdu.specs.ReplyView.{reply_of, IsPlaced}
use Rattle.ber_grammar.proofs.FieldLaws.{whole_in_found, begins_of}
use Rattle.mms_pdu.proofs.ReplyLaws.{beyond_140, beyond_164, beyond_163, beyond_162}

-- the piece ends where the other ends, and is no longer
abbrev Ends : Piece → Piece → Type 0
Ends q p = (q.block ≡ p.block) × (q.place + length q.octets ≡ p.place + length p.octets) × (length q.octets ≤ length p.octets)

Ends-then : (a b c : Piece) → Ends a b → Ends b c → Ends a c
Ends-then a b c h k = (h.0 ∙ k.0, h.1 ∙ k.1, omega (arith, h.2, k.2))

whole_ends : (p : Piece) (s : Spot) → whole_in p ≡ Some s → Ends (content_piece s) p
whole_ends p s h =
    let a = then_some (whole_at p.octets) (λ e. Some (spot_in p e)) s h in
    let same : spot_in p a.0 ≡ s = some_is (spot_in p a.0) s a.2 in
    let spells : Spells p.octets a.0 = subst (λ (x : Spot). Spells p.octets x.element) (sym same) (whole_in_found p s h) in
    let len : length p.octets ≡ (a.0.head + length a.0.content) + 0 = Begins-length p.octets a.0 [] (p.octets, spells, sym (append-nil p.octets)) in
    subst (λ (x : Spot). Ends (content_piece x) p) same (refl, omega (arith, len), omega (arith, len))

numbered_ends : (tag : ℕ) (p : Piece) (n : ℕ) (q : Piece) → numbered_in tag p ≡ Some (n, q) → Ends q p
unfolding numbered_in first_in
numbered_ends tag p n q h =
    let a = then_some (first_in p) (λ x. and_then (number_at tag x.0.element) (λ m. Some (m, x.1))) (n, q) h in
    let b = then_some (kept (first_at p.octets)) (λ x. Some (spot_in p x.0, behind p x.0 x.1)) a.0 a.1 in
    let c = then_some (number_at tag a.0.0.element) (λ m. Some (m, a.0.1)) (n, q) a.2 in
    let at : behind p b.0.0 b.0.1 ≡ q = ap (λ (x : Spot × Piece). x.1) (some_is (spot_in p b.0.0, behind p b.0.0 b.0.1) a.0 b.2) ∙ ap (λ (x : ℕ × Piece). x.1) (some_is (c.0, a.0.1) (n, q) c.2) in
    let len = Begins-length p.octets b.0.0 b.0.1 (begins_of p.octets b.0 (kept_some (first_at p.octets) b.0 b.1)) in
    subst (λ (x : Piece). Ends x p) at (refl, omega (arith, len), omega (arith, len))

service_ends : (p : Piece) (tag : ℕ) (q : Piece) → service_in p ≡ Some (tag, q) → Ends q p
unfolding service_in
service_ends p tag q h =
    let step = λ (s : Spot). cond (is_answer_body s.element.tag (content_piece s)) (Some (s.element.tag, content_piece s)) None in
    let a = then_some (whole_in p) step (tag, q) h in
    let b = chosen (is_answer_body a.0.element.tag (content_piece a.0)) (Some (a.0.element.tag, content_piece a.0)) (tag, q) a.2 in
    subst (λ (x : Piece). Ends x p) (ap (λ (x : ℕ × Piece). x.1) (some_is (a.0.element.tag, content_piece a.0) (tag, q) b.1)) (whole_ends p a.0 a.1)

-- what is given back lies so in this piece
abbrev Lies : Piece → Result (Reply Piece) PduFault → Type 0
Lies p (Ok (answer invoke tag q)) = Ends q p
Lies p (Ok (information q)) = q ≡ p
Lies p other = Unit {0}

service_lies : (p q : Piece) (invoke : ℕ) (o : Option (ℕ × Piece)) → Ends q p → service_in q ≡ o → Lies p (or_fault o (Argument invoke) >>= λ t. Ok (answer invoke t.0 t.1))
service_lies p q invoke None ends h = tt
service_lies p q invoke (Some t) ends h = Ends-then t.1 q p (service_ends q t.0 t.1 h) ends

answer_lies : (p q : Piece) → Ends q p → Lies p (answer_in q)
unfolding answer_in
answer_lies p q ends = step (numbered_in 2 q) refl
  where
    step : (o : Option (ℕ × Piece)) → numbered_in 2 q ≡ o → Lies p (or_fault o Invalid >>= λ x. or_fault (service_in x.1) (Argument x.0) >>= λ t. Ok (answer x.0 t.0 t.1))
    step None h = tt
    step (Some x) h = service_lies p x.1 x.0 (service_in x.1) (Ends-then x.1 q p (numbered_ends 2 q x.0 x.1 h) ends) refl

error_lies : (p q : Piece) → Lies p (error_in q)
unfolding error_in
error_lies p q = step (numbered_in 128 q)
  where
    inner : (invoke : ℕ) (o : Option (ℕ × ℕ)) → Lies p (or_fault o (Argument invoke) >>= λ f. Ok (error invoke f.0 f.1))
    inner invoke None = tt
    inner invoke (Some f) = tt

    step : (o : Option (ℕ × Piece)) → Lies p (or_fault o Invalid >>= λ x. or_fault (service_error_in x.1) (Argument x.0) >>= λ f. Ok (error x.0 f.0 f.1))
    step None = tt
    step (Some x) = inner x.0 (service_error_in x.1)

reject_lies : (p q : Piece) → Lies p (reject_in q)
unfolding reject_in
reject_lies p q = step (numbered_in 128 q)
  where
    inner : (invoke : Option ℕ) (fault : PduFault) (o : Option ℕ) → Lies p (or_fault o fault >>= λ code. Ok (reject invoke code))
    inner invoke fault None = tt
    inner invoke fault (Some code) = tt

    step : (o : Option (ℕ × Piece)) → Lies p (rejected q o)
    step None = inner None Invalid (reason_at q.octets)
    step (Some x) = inner (Some x.0) (Argument x.0) (reason_at x.1.octets)

pdu_lies : (p : Piece) (s : Spot) → Ends (content_piece s) p → Lies p (pdu_in p s)
unfolding pdu_in
pdu_lies p s ends =
    let tag : ℕ = s.element.tag in
    cond_both (eqb tag 161) (answer_in (content_piece s)) (beyond_162 p s) (Lies p) (λ e. answer_lies p (content_piece s) ends)
    (λ a. cond_both (eqb tag 162) (error_in (content_piece s)) (beyond_163 p s) (Lies p) (λ e. error_lies p (content_piece s))
    (λ b. cond_both (eqb tag 163) (Ok (information p)) (beyond_164 s) (Lies p) (λ e. refl)
    (λ c. cond_both (eqb tag 164) (reject_in (content_piece s)) (beyond_140 s) (Lies p) (λ e. reject_lies p (content_piece s))
    (λ d. cond_both (eqb tag 140) (cond (eqb (length s.element.content) 0) (Ok concluded) (Err Invalid)) (Err Invalid) (Lies p)
    (λ e. cond_both (eqb (length s.element.content) 0) (Ok concluded) (Err Invalid) (Lies p) (λ f. tt) (λ f. tt))
    (λ e. tt)))))

whole_lies : (p : Piece) (o : Option Spot) → whole_in p ≡ o → Lies p (or_fault o Invalid >>= pdu_in p)
whole_lies p None h = tt
whole_lies p (Some s) h = pdu_lies p s (whole_ends p s h)

reply_lies : (p : Piece) → Lies p (reply_in p)
unfolding reply_in
reply_lies p = cond_both (may_begin is_pdu p.octets) (or_fault (whole_in p) Invalid >>= pdu_in p) (Err UnknownPdu) (Lies p) (λ e. whole_lies p (whole_in p) refl) (λ e. tt)

placed_view : (whole : Bor (List ℕ)) (v : ReplyView) → Lies (piece whole) (Ok (reply_of v)) → IsPlaced whole v
placed_view whole (Answer invoke tag body) h = h
placed_view whole (Error invoke class code) h = tt
placed_view whole (Reject invoke code) h = tt
placed_view whole Concluded h = tt
placed_view whole (Information pdu) h = (ap (λ (x : Piece). x.block) h, ap (λ (x : Piece). x.place) h, ap (λ (x : Piece). x.octets) h)

pub reply_placed : (whole : Bor (List ℕ)) (r : Result ReplyView PduFault) → Gives reply_of r (reply_in (piece whole)) → IfOk r (λ v. IsPlaced whole v)
reply_placed whole (Ok v) g = placed_view whole v (subst (λ (x : Result (Reply Piece) PduFault). Lies (piece whole) x) g (reply_lies (piece whole)))
reply_placed whole (Err f) g = tt
