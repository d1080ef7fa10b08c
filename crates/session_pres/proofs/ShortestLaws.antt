-- No user data are shorter than what is written.
use Rattle.std.proofs.Common.{◌≡◌, ℕ, ◌+◌, ◌≤◌, List, [], ◌∷◌, length, refl, sym, ap, subst, ◌∙◌, arith}
use Rattle.std.proofs.lemmas.List.{length-append}
use Rattle.ber_grammar.specs.Octets.{IsBytes}
use Rattle.ber_grammar.specs.Element.{Element}
use Rattle.ber_grammar.specs.Place.{Spot, Piece, elements}
use Rattle.ber_grammar.proofs.OctetLaws.{AllBytes, IsRow-bytes}
use Rattle.ber_grammar.proofs.PlaceLaws.{elements-placed}
use Rattle.ber_write.specs.Minimal.{octets_of, uint_octets}
use Rattle.ber_write.proofs.ShortestLaws.{uint_shortest}
use Rattle.session_pres.specs.declared.codes.TheConstants.{FULLY_ENCODED_DATA, SINGLE_ASN1_TYPE, INTEGER, SEQUENCE}
use Rattle.ber_grammar.specs.Fields.{AreFields, IsOnly}
use Rattle.ber_write.proofs.WrittenLaws.{least, row_least}
use Rattle.ber_write.proofs.LengthLaws.{octets_grow}
use Rattle.session_pres.specs.UserData.{IsPair, IsPdv, IsUserData}
use Rattle.session_pres.specs.Written.{pdv_fields, pdv_list, user_octets}

-- elements with their places
abbrev Holds : Piece → List Spot → Type 0
Holds content spots = (least (elements spots) ≤ length content.octets) × AllBytes (elements spots)

holds : (content : Piece) (spots : List Spot) → IsBytes content.octets → AreFields content spots → Holds content spots
holds content spots fits (es, row, is) =
    let same : elements spots ≡ es = ap (λ (x : List Spot). elements x) is ∙ elements-placed (content.block, content.place) es in
    (subst (λ (x : List Element). least x ≤ length content.octets) (sym same) (row_least content.octets es fits row), subst AllBytes (sym same) (IsRow-bytes content.octets es fits row))

only_holds : (tag : ℕ) (whole content : Piece) → IsBytes whole.octets → IsOnly tag whole content → (length (octets_of tag content.octets) ≤ length whole.octets) × IsBytes content.octets
only_holds tag whole content fits (s, are, t, is) =
    let h = holds whole (s ∷ []) fits are in
    let octets : content.octets ≡ s.element.content = ap (λ (p : Piece). p.octets) is in
    let same : octets_of tag content.octets ≡ octets_of s.element.tag s.element.content = rw (octets, sym t) refl in
    (omega (arith, h.0, ap (λ (x : List ℕ). length x) same), subst IsBytes (sym octets) h.1.0)

pair_least : (a b : Spot) (pdv : ℕ × Piece) → IsBytes a.element.content → IsPair a b pdv → length (pdv_fields pdv.0 pdv.1.octets) ≤ length (octets_of a.element.tag a.element.content) + length (octets_of b.element.tag b.element.content)
unfolding pdv_fields
pair_least a b pdv fits (ta, n, tb, is, s, are) =
    let shortest = (uint_shortest a.element.content pdv.0 fits n.0).0 in
    let number : length (octets_of a.element.tag a.element.content) ≡ length (octets_of INTEGER a.element.content) = ap (λ (t : ℕ). length (octets_of t a.element.content)) ta in
    let value : length (octets_of b.element.tag b.element.content) ≡ length (octets_of SINGLE_ASN1_TYPE pdv.1.octets) = ap (λ (t : ℕ). length (octets_of t b.element.content)) tb ∙ sym (ap (λ (p : Piece). length (octets_of SINGLE_ASN1_TYPE p.octets)) is) in
    omega (arith, number, value, octets_grow INTEGER (uint_octets pdv.0) a.element.content shortest, length-append (octets_of INTEGER (uint_octets pdv.0)) (octets_of SINGLE_ASN1_TYPE pdv.1.octets))

fields_least : (fields : List Spot) (pdv : ℕ × Piece) → AllBytes (elements fields) → IsPdv fields pdv → length (pdv_fields pdv.0 pdv.1.octets) ≤ least (elements fields)
fields_least [] pdv fits h = absurd h
fields_least (a ∷ []) pdv fits h = absurd h
fields_least (a ∷ b ∷ []) pdv fits h = omega (arith, pair_least a b pdv fits.0 h)
fields_least (a ∷ b ∷ c ∷ []) pdv fits h = omega (arith, pair_least b c pdv fits.1.0 h.1)
fields_least (a ∷ b ∷ c ∷ d ∷ more) pdv fits h = absurd h

pub user_least : (input : Piece) (context : ℕ) (user : Piece) → IsBytes input.octets → IsUserData input (context, user) → length (user_octets context user.octets) ≤ length input.octets
unfolding user_octets pdv_list
user_least input context user fits (values, outer, (value, inner, fields, are, pdv)) =
    let a = only_holds FULLY_ENCODED_DATA input values fits outer in
    let b = only_holds SEQUENCE values value a.1 inner in
    let c = holds value fields b.1 are in
    let d = fields_least fields (context, user) c.1 pdv in
    let e = octets_grow SEQUENCE (pdv_fields context user.octets) value.octets (omega (arith, c.0, d)) in
    omega (arith, a.0, octets_grow FULLY_ENCODED_DATA (octets_of SEQUENCE (pdv_fields context user.octets)) values.octets (omega (arith, e, b.0)))
