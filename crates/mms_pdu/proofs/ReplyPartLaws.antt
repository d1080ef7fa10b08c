-- What is read of the parts of what a server sends is what they spell, and what they spell is read.
use Rattle.std.proofs.Common.{◌≡◌, ℕ, ◌+◌, ◌-◌, ◌<◌, ◌≤◌, ◌&&◌, inl, inr, true, cond, leb, eqb, List, [], ◌∷◌, Some, None, refl, sym, ap, subst, ◌∙◌, arith}
use Rattle.std.proofs.lemmas.Bool.{eqb-true, eq-eqb, le-leb, leb-true, lt-ltb, le-ltb, and_parts}
use Rattle.list_laws.proofs.Options.{some_is, chosen, sides}
use Rattle.ber_grammar.specs.Octets.{IsBytes}
use Rattle.ber_grammar.specs.Element.{Element, IsRow}
use Rattle.ber_grammar.specs.Place.{Spot, Piece, content_piece}
use Rattle.ber_grammar.specs.Reader.{and_then}
use Rattle.ber_grammar.proofs.OptionLaws.{then_some}
use Rattle.ber_grammar.proofs.OctetLaws.{Spells-bytes, IsRow-bytes}
use Rattle.ber_grammar.specs.Fields.{only_in, spot_in, whole_at, whole_in}
use Rattle.mms_elements.specs.Invoke.{below_at}
use Rattle.mms_pdu.specs.Answer.{IsAnswerBody, is_answer_body}
use Rattle.mms_pdu.specs.Reply.{IsService, IsServiceError, IsReason}
use Rattle.mms_pdu.specs.ReplyOctets.{class_tag}
use Rattle.mms_pdu.specs.ReplyReading.{service_in, class_at, class_in, error_class_in, service_error_in, reason_at}
use Rattle.ber_grammar.proofs.FieldLaws.{whole_again, whole_found, whole_in_again, whole_in_found, only_found, only_again}
use Rattle.mms_elements.proofs.TaggedLaws.{below_again, below_found}
use Rattle.mms_pdu.proofs.AnswerLaws.{body_found, body_again}

-- ---- the element of a service

pub service_again : (p : Piece) (tag : ℕ) (body : List ℕ) → IsBytes p.octets → IsService p.octets tag body → (q : Piece) × (service_in p ≡ Some (tag, q)) × (q.octets ≡ body)
unfolding service_in
service_again p tag body fits (e, s, t, b, form) =
    let q : Piece = content_piece (spot_in p e) in
    let is : is_answer_body e.tag q ≡ true = body_again e.tag q (Spells-bytes p.octets e fits s) (subst (λ (x : ℕ). IsAnswerBody x e.content) (sym t) (subst (λ (x : List ℕ). IsAnswerBody tag x) (sym b) form)) in
    (q, rw (whole_in_again p e s, is) (ap (λ (x : ℕ). Some (x, q)) t), b)

pub service_found : (p : Piece) (tag : ℕ) (q : Piece) → IsBytes p.octets → service_in p ≡ Some (tag, q) → IsService p.octets tag q.octets
unfolding service_in
service_found p tag q fits h =
    let step = λ (s : Spot). cond (is_answer_body s.element.tag (content_piece s)) (Some (s.element.tag, content_piece s)) None in
    let a = then_some (whole_in p) step (tag, q) h in
    let b = chosen (is_answer_body a.0.element.tag (content_piece a.0)) (Some (a.0.element.tag, content_piece a.0)) (tag, q) a.2 in
    let both : (a.0.element.tag, content_piece a.0) ≡ (tag, q) = some_is (a.0.element.tag, content_piece a.0) (tag, q) b.1 in
    let t : a.0.element.tag ≡ tag = ap (λ (x : ℕ × Piece). x.0) both in
    let c : a.0.element.content ≡ q.octets = ap (λ (x : ℕ × Piece). x.1.octets) both in
    let s = whole_in_found p a.0 a.1 in
    let form = body_found a.0.element.tag (content_piece a.0) (Spells-bytes p.octets a.0.element fits s) b.0 in
    (a.0.element, s, t, c, subst (λ (x : ℕ). IsAnswerBody x q.octets) t (subst (λ (x : List ℕ). IsAnswerBody a.0.element.tag x) c form))

-- ---- the class of an error

class_again : (class : ℕ) → class < 256 → class_at (class_tag class) ≡ Some class
class_again class small = grind arith

-- the tag of a class that is of one octet, of two and of three
low_tag : (class : ℕ) → class < 31 → 128 + class ≡ class_tag class
low_tag class lt = rw (lt-ltb class 31 lt) refl

middle_tag : (class : ℕ) → 31 ≤ class → class < 128 → 40704 + class ≡ class_tag class
middle_tag class ge lt = rw (le-ltb class 31 ge, lt-ltb class 128 lt) refl

high_tag : (class : ℕ) → 128 ≤ class → 10453120 + class ≡ class_tag class
high_tag class ge = rw (le-ltb class 31 (omega (arith, ge)), le-ltb class 128 ge) refl

class_from : (tag base class : ℕ) → base ≤ tag → tag - base ≡ class → tag ≡ base + class
class_from tag base class le e = omega (arith, le, e)

class_found : (tag class : ℕ) → class_at tag ≡ Some class → (class < 256) × (tag ≡ class_tag class)
class_found tag class h =
    let last = cond (leb 10453248 tag && leb tag 10453375) (Some (tag - 10453120)) None in
    let middle = cond (leb 40735 tag && leb tag 40831) (Some (tag - 40704)) last in
    elim (sides (leb 128 tag && leb tag 158) (Some (tag - 128)) middle (Some class) h) [
      | inl a ↦ let b = and_parts (leb 128 tag) (leb tag 158) a.0 in
          let is = some_is (tag - 128) class a.1 in
          let le = leb-true 128 tag b.0 in
          let ge = leb-true tag 158 b.1 in
          (omega (arith, is, le, ge), class_from tag 128 class le is ∙ low_tag class (omega (arith, is, le, ge)))
      | inr a ↦ elim (sides (leb 40735 tag && leb tag 40831) (Some (tag - 40704)) last (Some class) a.1) [
        | inl d ↦ let b = and_parts (leb 40735 tag) (leb tag 40831) d.0 in
            let is = some_is (tag - 40704) class d.1 in
            let le = leb-true 40735 tag b.0 in
            let ge = leb-true tag 40831 b.1 in
            (omega (arith, is, le, ge), class_from tag 40704 class (omega (arith, le)) is ∙ middle_tag class (omega (arith, is, le)) (omega (arith, is, le, ge)))
        | inr d ↦ let f = chosen (leb 10453248 tag && leb tag 10453375) (Some (tag - 10453120)) class d.1 in
            let b = and_parts (leb 10453248 tag) (leb tag 10453375) f.0 in
            let is = some_is (tag - 10453120) class f.1 in
            let le = leb-true 10453248 tag b.0 in
            let ge = leb-true tag 10453375 b.1 in
            (omega (arith, is, le, ge), class_from tag 10453120 class (omega (arith, le)) is ∙ high_tag class (omega (arith, is, le)))
      ]
    ]

-- ---- the only element, with where it lies

only_in_again : (p : Piece) (e : Element) → IsRow p.octets (e ∷ []) → (s : Spot) × (only_in p ≡ Some s) × (s.element ≡ e)
only_in_again p e row = (spot_in p e, only_again p e row, refl)

-- ---- an error

pub service_error_again : (p : Piece) (class code : ℕ) → IsServiceError p.octets class code → service_error_in p ≡ Some (class, code)
unfolding service_error_in
service_error_again p class code (e, k, f, s, t, row, u, inner, small, v, is) =
    let a = only_in_again (content_piece (spot_in p e)) k row in
    let b = only_in_again (content_piece a.0) f (subst (λ (x : Element). IsRow x.content (f ∷ [])) (sym a.2) inner) in
    let outer : eqb a.0.element.tag 160 ≡ true = eq-eqb a.0.element.tag 160 (ap (λ (x : Element). x.tag) a.2 ∙ u) in
    let class_is : class_at b.0.element.tag ≡ Some class = ap (λ (x : Element). class_at x.tag) b.2 ∙ ap class_at v ∙ class_again class small in
    let code_is : below_at 256 b.0.element.content ≡ Some code = ap (λ (x : Element). below_at 256 x.content) b.2 ∙ below_again 256 f.content code is.0 is.1 in
    rw (whole_in_again p e s, eq-eqb e.tag 162 t, a.1, outer, b.1, class_is, code_is) refl

pub service_error_found : (p : Piece) (class code : ℕ) → IsBytes p.octets → service_error_in p ≡ Some (class, code) → IsServiceError p.octets class code
unfolding service_error_in
service_error_found p class code fits h =
    let step = λ (s : Spot). cond (eqb s.element.tag 162) (and_then (only_in (content_piece s)) error_class_in) None in
    let a = then_some (whole_in p) step (class, code) h in
    let b = chosen (eqb a.0.element.tag 162) (and_then (only_in (content_piece a.0)) error_class_in) (class, code) a.2 in
    let k = then_some (only_in (content_piece a.0)) error_class_in (class, code) b.1 in
    let c = chosen (eqb k.0.element.tag 160) (and_then (only_in (content_piece k.0)) class_in) (class, code) k.2 in
    let f = then_some (only_in (content_piece k.0)) class_in (class, code) c.1 in
    let d = then_some (class_at f.0.element.tag) (λ x. and_then (below_at 256 f.0.element.content) (λ y. Some (x, y))) (class, code) f.2 in
    let g = then_some (below_at 256 f.0.element.content) (λ y. Some (d.0, y)) (class, code) d.2 in
    let both : (d.0, g.0) ≡ (class, code) = some_is (d.0, g.0) (class, code) g.2 in
    let s = whole_in_found p a.0 a.1 in
    let row = only_found (content_piece a.0) k.0 k.1 in
    let inner = only_found (content_piece k.0) f.0 f.1 in
    let outer_fits : IsBytes a.0.element.content = Spells-bytes p.octets a.0.element fits s in
    let k_fits : IsBytes k.0.element.content = (IsRow-bytes a.0.element.content (k.0.element ∷ []) outer_fits row).0 in
    let f_fits : IsBytes f.0.element.content = (IsRow-bytes k.0.element.content (f.0.element ∷ []) k_fits inner).0 in
    let is = class_found f.0.element.tag class (d.1 ∙ ap (λ (x : ℕ × ℕ). Some x.0) both) in
    let code_is = below_found 256 f.0.element.content code f_fits (g.1 ∙ ap (λ (x : ℕ × ℕ). Some x.1) both) in
    (a.0.element, k.0.element, f.0.element, s, eqb-true a.0.element.tag 162 b.0, row, eqb-true k.0.element.tag 160 c.0, inner, is.0, is.1, code_is)

-- ---- the reason of a reject

pub reason_again : (octets : List ℕ) (code : ℕ) → IsReason octets code → reason_at octets ≡ Some code
unfolding reason_at
reason_again octets code (e, s, least, most, is) = rw (whole_again octets e s, le-leb 129 e.tag least, le-leb e.tag 139 most) (below_again 256 e.content code is.0 is.1)

pub reason_found : (octets : List ℕ) (code : ℕ) → IsBytes octets → reason_at octets ≡ Some code → IsReason octets code
unfolding reason_at
reason_found octets code fits h =
    let step = λ (e : Element). cond (leb 129 e.tag && leb e.tag 139) (below_at 256 e.content) None in
    let a = then_some (whole_at octets) step code h in
    let b = chosen (leb 129 a.0.tag && leb a.0.tag 139) (below_at 256 a.0.content) code a.2 in
    let c = and_parts (leb 129 a.0.tag) (leb a.0.tag 139) b.0 in
    let s = whole_found octets a.0 a.1 in
    (a.0, s, leb-true 129 a.0.tag c.0, leb-true a.0.tag 139 c.1, below_found 256 a.0.content code (Spells-bytes octets a.0 fits s) b.1)
