-- The fields of a content, one of them, and the one element that octets are.
use Rattle.std.proofs.Common.{◌≡◌, ℕ, ◌+◌, cond, eqb, inl, inr, List, [], ◌∷◌, ◌++◌, length, Some, None, Result, Ok, refl, sym, ap, subst, ◌∙◌}
use Rattle.std.proofs.lemmas.Bool.{eqb-true, eqb-false, eq-eqb, ne_eqb}
use Rattle.std.proofs.lemmas.List.{nil_from_length, append-nil}
use Rattle.list_laws.proofs.Options.{some_is, chosen, sides}
use Rattle.ber_grammar.specs.declared.fault.BerFault.{BerFault}
use Rattle.ber_grammar.specs.Octets.{IsBytes}
use Rattle.ber_grammar.specs.Element.{Element, Spells, Begins, IsRow}
use Rattle.ber_grammar.specs.Place.{Piece, Spot, placed, elements, content_piece}
use Rattle.ber_grammar.specs.Reader.{kept}
use Rattle.ber_grammar.specs.Reading.{first_at}
use Rattle.ber_grammar.specs.Rows.{parts_at, single}
use Rattle.ber_grammar.specs.Fields.{AreFields, IsFirst, IsField, IsOnly, spot_in, spots, fields_in, only_in, with_tag, only_with, first_with, field_with, whole_at, whole_in}
use Rattle.ber_grammar.proofs.OptionLaws.{kept_some, then_some}
use Rattle.ber_grammar.proofs.OctetLaws.{IsRow-bytes, AllBytes}
use Rattle.ber_grammar.proofs.ElementLaws.{FirstTells, first_tells, first_again}
use Rattle.ber_grammar.proofs.PartsLaws.{PartsTells, parts_tells, parts_none, row_again}
use Rattle.ber_grammar.proofs.PlaceLaws.{elements-placed}

-- ---- a row

pub row_found : (octets : List ℕ) (es : List Element) → kept (parts_at octets) ≡ Some es → IsRow octets es
row_found octets es h = subst (λ (r : Result (List Element) BerFault). PartsTells octets r) (kept_some (parts_at octets) es h) (parts_tells octets)

pub row_kept : (octets : List ℕ) (es : List Element) → IsRow octets es → kept (parts_at octets) ≡ Some es
row_kept octets es row = rw (row_again octets es row) refl

-- ---- all fields

pub fields_again : (content : Piece) (fields : List Spot) → AreFields content fields → fields_in content ≡ Some fields
unfolding fields_in
fields_again content fields (es, row, at) = rw (row_again content.octets es row) (ap (λ (x : List Spot). Some x) (sym at))

pub fields_found : (content : Piece) (fields : List Spot) → fields_in content ≡ Some fields → AreFields content fields
unfolding fields_in
fields_found content fields h =
    let a = then_some (kept (parts_at content.octets)) (λ (es : List Element). Some (placed (content.block, content.place) es)) fields h in
    (a.0, row_found content.octets a.0 a.1, sym (some_is (placed (content.block, content.place) a.0) fields a.2))

pub fields_none : (p : Piece) → p.octets ≡ [] → fields_in p ≡ Some []
unfolding fields_in
fields_none p none = rw (ap parts_at none ∙ parts_none) refl

-- the same of the elements alone
pub elements_again : (p : Piece) (es : List Element) → IsRow p.octets es → fields_in p ≡ Some (spots p es)
elements_again p es row = fields_again p (spots p es) (es, row, refl)

pub elements_found : (p : Piece) (ss : List Spot) → fields_in p ≡ Some ss → IsRow p.octets (elements ss)
elements_found p ss h =
    let are = fields_found p ss h in
    subst (λ (es : List Element). IsRow p.octets es) (sym (elements-placed (p.block, p.place) are.0) ∙ ap elements (sym are.2)) are.1

-- what is known of elements is known of them in their places
pub in_place : (P : List Element → Type 0) (p : Piece) (es : List Element) → P es → P (elements (spots p es))
in_place P p es h = subst P (sym (elements-placed (p.block, p.place) es)) h

-- ---- the only field

single_is : {A : Type 0} (xs : List A) (x : A) → single xs ≡ Some x → xs ≡ x ∷ []
single_is [] x h = absurd cc
single_is (y ∷ []) x h = cc
single_is (y ∷ z ∷ xs) x h = absurd cc

pub single_again : (content : Piece) (s : Spot) → AreFields content (s ∷ []) → only_in content ≡ Some s
unfolding only_in
single_again content s are = rw (fields_again content (s ∷ []) are) refl

pub single_found : (content : Piece) (s : Spot) → only_in content ≡ Some s → AreFields content (s ∷ [])
unfolding only_in
single_found content s h =
    let a = then_some (fields_in content) single s h in
    subst (λ (ss : List Spot). AreFields content ss) (single_is a.0 s a.2) (fields_found content a.0 a.1)

-- the same of the element alone
pub only_again : (p : Piece) (e : Element) → IsRow p.octets (e ∷ []) → only_in p ≡ Some (spot_in p e)
only_again p e row = single_again p (spot_in p e) (e ∷ [], row, refl)

pub only_found : (p : Piece) (s : Spot) → only_in p ≡ Some s → IsRow p.octets (s.element ∷ [])
unfolding only_in
only_found p s h =
    let a = then_some (fields_in p) single s h in
    subst (λ (ss : List Spot). IsRow p.octets (elements ss)) (single_is a.0 s a.2) (elements_found p a.0 a.1)

pub only_bytes : (octets : List ℕ) (e : Element) → IsBytes octets → IsRow octets (e ∷ []) → IsBytes e.content
only_bytes octets e fits row = (IsRow-bytes octets (e ∷ []) fits row).0

-- ---- a field with a tag

pub with_tag-again : (tag : ℕ) (s : Spot) (inner : Piece) → s.element.tag ≡ tag → inner ≡ content_piece s → with_tag tag s ≡ Some inner
with_tag-again tag s inner is_tag at = rw (eq-eqb s.element.tag tag is_tag) (ap (λ (x : Piece). Some x) (sym at))

pub with_tag-found : (tag : ℕ) (s : Spot) (inner : Piece) → with_tag tag s ≡ Some inner → (s.element.tag ≡ tag) × (inner ≡ content_piece s)
with_tag-found tag s inner h =
    let a = chosen (eqb s.element.tag tag) (Some (content_piece s)) inner h in
    (eqb-true s.element.tag tag a.0, sym (some_is (content_piece s) inner a.1))

pub only_with-again : (tag : ℕ) (content inner : Piece) → IsOnly tag content inner → only_with tag content ≡ Some inner
unfolding only_with
only_with-again tag content inner (s, are, is_tag, at) = rw (single_again content s are) (with_tag-again tag s inner is_tag at)

pub only_with-found : (tag : ℕ) (content inner : Piece) → only_with tag content ≡ Some inner → IsOnly tag content inner
unfolding only_with
only_with-found tag content inner h =
    let a = then_some (only_in content) (with_tag tag) inner h in
    let b = with_tag-found tag a.0 inner a.2 in
    (a.0, single_found content a.0 a.1, b.0, b.1)

pub first_with-again : (tag : ℕ) (fields : List Spot) (inner : Piece) → IsFirst tag fields inner → first_with tag fields ≡ Some inner
first_with-again tag [] inner h = absurd h
first_with-again tag (s ∷ others) inner (inl (is_tag, at)) = rw (eq-eqb s.element.tag tag is_tag) (ap (λ (x : Piece). Some x) (sym at))
first_with-again tag (s ∷ others) inner (inr (other, h)) = rw (ne_eqb s.element.tag tag other) (first_with-again tag others inner h)

pub first_with-found : (tag : ℕ) (fields : List Spot) (inner : Piece) → first_with tag fields ≡ Some inner → IsFirst tag fields inner
first_with-found tag [] inner h = absurd cc
first_with-found tag (s ∷ others) inner h =
    elim (sides (eqb s.element.tag tag) (Some (content_piece s)) (first_with tag others) (Some inner) h) [
      | inl (is_tag, at) ↦ inl (eqb-true s.element.tag tag is_tag, sym (some_is (content_piece s) inner at))
      | inr (other, at) ↦ inr (eqb-false s.element.tag tag other, first_with-found tag others inner at)
    ]

pub field_with-again : (tag : ℕ) (content inner : Piece) → IsField tag content inner → field_with tag content ≡ Some inner
unfolding field_with
field_with-again tag content inner (fields, are, first) = rw (fields_again content fields are) (first_with-again tag fields inner first)

pub field_with-found : (tag : ℕ) (content inner : Piece) → field_with tag content ≡ Some inner → IsField tag content inner
unfolding field_with
field_with-found tag content inner h =
    let a = then_some (fields_in content) (first_with tag) inner h in
    (a.0, fields_found content a.0 a.1, first_with-found tag a.0 inner a.2)

-- ---- the one element that octets are

pub begins_of : (octets : List ℕ) (x : Element × List ℕ) → first_at octets ≡ Ok x → Begins octets x.0 x.1
begins_of octets x h = subst (λ (r : Result (Element × List ℕ) BerFault). FirstTells octets r) h (first_tells octets)

pub row_spells : (octets : List ℕ) (e : Element) → IsRow octets (e ∷ []) → Spells octets e
row_spells octets e (front, rest, s, p, none) = subst (λ (x : List ℕ). Spells x e) (sym (p ∙ ap (λ (x : List ℕ). front ++ x) none ∙ append-nil front)) s

pub spells_row : (octets : List ℕ) (e : Element) → Spells octets e → IsRow octets (e ∷ [])
spells_row octets e s = (octets, [], s, sym (append-nil octets), refl)

pub first_whole : (input : List ℕ) (e : Element) → Spells input e → first_at input ≡ Ok (e, [])
first_whole input e s = ap first_at (sym (append-nil input)) ∙ first_again input [] e s

pub whole_first : (input : List ℕ) (e : Element) → first_at input ≡ Ok (e, []) → Spells input e
whole_first input e h = whole_of input e (begins_of input (e, []) h)
  where
    whole_of : (input : List ℕ) (e : Element) → Begins input e [] → Spells input e
    whole_of input e (front, s, p) = subst (λ (x : List ℕ). Spells x e) (sym (p ∙ append-nil front)) s

pub whole_again : (input : List ℕ) (e : Element) → Spells input e → whole_at input ≡ Some e
unfolding whole_at
whole_again input e s = rw (first_whole input e s) refl

pub whole_found : (input : List ℕ) (e : Element) → whole_at input ≡ Some e → Spells input e
unfolding whole_at
whole_found input e h =
    let step = λ (x : Element × List ℕ). cond (eqb (length x.1) 0) (Some x.0) None in
    let a = then_some (kept (first_at input)) step e h in
    let b = chosen (eqb (length a.0.1) 0) (Some a.0.0) e a.2 in
    let none : a.0.1 ≡ [] = nil_from_length a.0.1 (eqb-true (length a.0.1) 0 b.0) in
    let one : first_at input ≡ Ok (a.0.0, []) = kept_some (first_at input) a.0 a.1 ∙ ap (λ (x : List ℕ). Ok (a.0.0, x)) none in
    subst (λ (x : Element). Spells input x) (some_is a.0.0 e b.1) (whole_first input a.0.0 one)

pub whole_in_again : (p : Piece) (e : Element) → Spells p.octets e → whole_in p ≡ Some (spot_in p e)
whole_in_again p e s = rw (whole_again p.octets e s) refl

pub whole_in_found : (p : Piece) (s : Spot) → whole_in p ≡ Some s → Spells p.octets s.element
whole_in_found p s h =
    let a = then_some (whole_at p.octets) (λ e. Some (spot_in p e)) s h in
    subst (λ (x : Spot). Spells p.octets x.element) (some_is (spot_in p a.0) s a.2) (whole_found p.octets a.0 a.1)

-- ---- one at most

pub one_fields : (content : Piece) (ss ts : List Spot) → AreFields content ss → AreFields content ts → ss ≡ ts
one_fields content ss ts p q = some_is ss ts (sym (fields_again content ss p) ∙ fields_again content ts q)

pub one_field : (tag : ℕ) (content p q : Piece) → IsField tag content p → IsField tag content q → p ≡ q
one_field tag content p q h k = some_is p q (sym (field_with-again tag content p h) ∙ field_with-again tag content q k)

pub one_only : (tag : ℕ) (content p q : Piece) → IsOnly tag content p → IsOnly tag content q → p ≡ q
one_only tag content p q h k = some_is p q (sym (only_with-again tag content p h) ∙ only_with-again tag content q k)

pub one_whole : (octets : List ℕ) (d e : Element) → Spells octets d → Spells octets e → d ≡ e
one_whole octets d e s t = some_is d e (sym (whole_again octets d s) ∙ whole_again octets e t)

-- ---- parts of octets are octets

-- the contents of these
abbrev pub HoldOctets : List Spot → Type 0
HoldOctets [] = Unit {0}
HoldOctets (s ∷ others) = IsBytes s.element.content × HoldOctets others

placed-hold : (from : ℕ × ℕ) (es : List Element) → AllBytes es → HoldOctets (placed from es)
placed-hold from [] h = tt
placed-hold from (e ∷ es) h = (h.0, placed-hold (from.0, from.1 + (e.head + length e.content)) es h.1)

pub fields-hold : (content : Piece) (fields : List Spot) → IsBytes content.octets → AreFields content fields → HoldOctets fields
fields-hold content fields fits (es, row, at) = subst HoldOctets (sym at) (placed-hold (content.block, content.place) es (IsRow-bytes content.octets es fits row))

pub first-holds : (tag : ℕ) (fields : List Spot) (inner : Piece) → HoldOctets fields → IsFirst tag fields inner → IsBytes inner.octets
first-holds tag [] inner hold h = absurd h
first-holds tag (s ∷ others) inner hold (inl (is_tag, at)) = subst (λ (x : Piece). IsBytes x.octets) (sym at) hold.0
first-holds tag (s ∷ others) inner hold (inr (other, h)) = first-holds tag others inner hold.1 h

pub field-holds : (tag : ℕ) (content inner : Piece) → IsBytes content.octets → IsField tag content inner → IsBytes inner.octets
field-holds tag content inner fits (fields, are, first) = first-holds tag fields inner (fields-hold content fields fits are) first

pub only-holds : (tag : ℕ) (content inner : Piece) → IsBytes content.octets → IsOnly tag content inner → IsBytes inner.octets
only-holds tag content inner fits (s, are, is_tag, at) = subst (λ (x : Piece). IsBytes x.octets) (sym at) (fields-hold content (s ∷ []) fits are).0
