-- What is read of a name is what it spells, and what it spells is read.
use Rattle.std.proofs.Common.{◌≡◌, ℕ, ◌+◌, cond, eqb, List, [], ◌∷◌, length, Some, None, refl, sym, ap, subst}
use Rattle.std.proofs.lemmas.Bool.{eqb-true, eq-eqb}
use Rattle.list_laws.proofs.Options.{some_is, chosen, either_way}
use Rattle.ber_grammar.specs.Content.{IsText}
use Rattle.ber_grammar.specs.Element.{Element, IsRow}
use Rattle.ber_grammar.specs.Place.{Spot, Piece, content_piece, elements}
use Rattle.ber_grammar.specs.Reader.{and_then, kept}
use Rattle.ber_grammar.specs.Reading.{text_at}
use Rattle.ber_grammar.proofs.OptionLaws.{kept_some, then_some}
use Rattle.ber_grammar.proofs.TextLaws.{text_again, text_found}
use Rattle.ber_grammar.specs.Fields.{fields_in}
use Rattle.mms_pdu.specs.ObjectName.{Name, vmd, domain, association, name_octets, IsIdentifier, IsName, identifier_at, pair_at, name_at}
use Rattle.ber_grammar.proofs.FieldLaws.{elements_found, elements_again}

identifier_found : (s : Spot) (p : Piece) → identifier_at s ≡ Some p → IsIdentifier s.element p.octets
unfolding identifier_at
identifier_found s p h =
    let a = chosen (eqb s.element.tag 26) (and_then (kept (text_at s.element.content)) (λ o. Some (content_piece s))) p h in
    let b = then_some (kept (text_at s.element.content)) (λ o. Some (content_piece s)) p a.1 in
    let is : IsText s.element.content b.0 = text_found s.element.content b.0 (kept_some (text_at s.element.content) b.0 b.1) in
    subst (λ (q : Piece). IsIdentifier s.element q.octets) (some_is (content_piece s) p b.2) (eqb-true s.element.tag 26 a.0, (refl, is.1))

identifier_again : (s : Spot) (o : List ℕ) → IsIdentifier s.element o → (identifier_at s ≡ Some (content_piece s)) × (s.element.content ≡ o)
unfolding identifier_at
identifier_again s o h = (rw (eq-eqb s.element.tag 26 h.0, text_again s.element.content o h.1) refl, sym h.1.0)

-- the two identifiers of a domain-specific name
abbrev IsPair : List Element → Name (List ℕ) → Type 0
IsPair (a ∷ b ∷ []) (domain d i) = IsIdentifier a d × IsIdentifier b i
IsPair es n = ⊥

pair_found : (ss : List Spot) (n : Name Piece) → pair_at ss ≡ Some n → IsPair (elements ss) (name_octets n)
pair_found [] n h = absurd cc
pair_found (a ∷ []) n h = absurd cc
pair_found (a ∷ b ∷ []) n h =
    let x = then_some (identifier_at a) (λ d. and_then (identifier_at b) (λ i. Some (domain d i))) n h in
    let y = then_some (identifier_at b) (λ i. Some (domain x.0 i)) n x.2 in
    subst (λ (m : Name Piece). IsPair (a.element ∷ b.element ∷ []) (name_octets m)) (some_is (domain x.0 y.0) n y.2) (identifier_found a x.0 x.1, identifier_found b y.0 y.1)
pair_found (a ∷ b ∷ c ∷ more) n h = absurd cc

paired : (e : Element) (es : List Element) (n : Name (List ℕ)) → e.tag ≡ 161 → IsRow e.content es → IsPair es n → IsName e n
paired e (a ∷ b ∷ []) (domain d i) tag row h = (tag, a, b, row, h.0, h.1)
paired e [] n tag row h = absurd h
paired e (a ∷ []) n tag row h = absurd h
paired e (a ∷ b ∷ []) (vmd o) tag row h = absurd h
paired e (a ∷ b ∷ []) (association o) tag row h = absurd h
paired e (a ∷ b ∷ c ∷ es) n tag row h = absurd h

pub name_found : (s : Spot) (n : Name Piece) → name_at s ≡ Some n → IsName s.element (name_octets n)
unfolding name_at
name_found s n h =
    let last = cond (eqb s.element.tag 130) (Some (association (content_piece s))) None in
    let pair = and_then (fields_in (content_piece s)) pair_at in
    either_way (eqb s.element.tag 128) (Some (vmd (content_piece s))) (cond (eqb s.element.tag 161) pair last) (Some n) h
    (λ t e. subst (λ (m : Name Piece). IsName s.element (name_octets m)) (some_is (vmd (content_piece s)) n e) (eqb-true s.element.tag 128 t, refl))
    (λ t e. either_way (eqb s.element.tag 161) pair last (Some n) e
    (λ u f. let x = then_some (fields_in (content_piece s)) pair_at n f in
    paired s.element (elements x.0) (name_octets n) (eqb-true s.element.tag 161 u) (elements_found (content_piece s) x.0 x.1) (pair_found x.0 n x.2))
    (λ u f. let x = chosen (eqb s.element.tag 130) (Some (association (content_piece s))) n f in
    subst (λ (m : Name Piece). IsName s.element (name_octets m)) (some_is (association (content_piece s)) n x.1) (eqb-true s.element.tag 130 x.0, refl)))

pub name_again : (s : Spot) (n : Name (List ℕ)) → IsName s.element n → (x : Name Piece) × (name_at s ≡ Some x) × (name_octets x ≡ n)
unfolding name_at
name_again s (vmd o) h = (vmd (content_piece s), rw h.0 refl, ap (λ (x : List ℕ). vmd x) (sym h.1))
name_again s (association o) h = (association (content_piece s), rw h.0 refl, ap (λ (x : List ℕ). association x) (sym h.1))
name_again s (domain d i) (tag, a, b, row, is, it) =
    let first : Spot = record { element = a; block = s.block; place = s.place + a.head } in
    let second : Spot = record { element = b; block = s.block; place = s.place + (a.head + length a.content) + b.head } in
    let x = identifier_again first d is in
    let y = identifier_again second i it in
    (domain (content_piece first) (content_piece second), rw (tag, elements_again (content_piece s) (a ∷ b ∷ []) row, x.0, y.0) refl, rw (x.1, y.1) refl)
