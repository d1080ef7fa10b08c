-- What is written is read by the other side.
use Rattle.std.proofs.Common.{◌≡◌, ℕ, ◌+◌, ◌<◌, ◌≤◌, ◌^◌, List, [], ◌∷◌, ◌++◌, length, Some, refl, sym, subst, ◌∙◌, append-nil, arith}
use Rattle.std.proofs.lemmas.List.{length-append}
use Rattle.ber_grammar.specs.Element.{Element, IsRow}
use Rattle.ber_grammar.specs.Place.{Spot, Piece, placed, content_piece}
use Rattle.ber_write.specs.Minimal.{CanBeTag, written, octets_of, uint_octets}
use Rattle.ber_write.proofs.NumberLaws.{uint_octets-spell}
use Rattle.session_pres.specs.declared.codes.TheConstants.{USER_DATA, FULLY_ENCODED_DATA, SINGLE_ASN1_TYPE, INTEGER, SEQUENCE}
use Rattle.ber_grammar.specs.Fields.{AreFields, IsOnly}
use Rattle.ber_write.proofs.WrittenLaws.{one_octet, written_more, written_last}
use Rattle.ber_write.proofs.LengthLaws.{octets_longer}
use Rattle.session_pres.specs.Units.{HasUser, IsSpdu, transfer}
use Rattle.session_pres.specs.UserData.{IsPdvList, IsUserData}
use Rattle.session_pres.specs.Written.{pdv_fields, pdv_list, user_octets, field, data_spdu, release_spdu, IsOneElement}
use Rattle.session_pres.proofs.WritingLaws.{field_fits, release_fits}
use Rattle.session_pres.proofs.FieldLaws.{Field, user_of_fields, unit_of_field}

-- ---- elements

pub only_of : (input : Piece) (tag : ℕ) (content : List ℕ) → CanBeTag tag → length content < 2 ^ 32 → input.octets ≡ octets_of tag content → (part : Piece) × IsOnly tag input part × (part.octets ≡ content)
only_of input tag content can small p =
    let e = written tag content in
    let s : Spot = record { element = e; block = input.block; place = input.place + e.head } in
    (content_piece s, (s, (e ∷ [], subst (λ (x : List ℕ). IsRow x (e ∷ [])) (sym p) (written_last tag content can small), refl), refl, refl), refl)

-- octets that are a row, with their places
pub elements_of : (input : Piece) (octets : List ℕ) (es : List Element) → input.octets ≡ octets → IsRow octets es → AreFields input (placed (input.block, input.place) es)
elements_of input octets es p row = (es, subst (λ (x : List ℕ). IsRow x es) (sym p) row, refl)

-- ---- user data

pub pdv_of : (values : Piece) (context : ℕ) (value : List ℕ) → context < 2 ^ 32 → IsOneElement value → length (pdv_list context value) < 2 ^ 32 → values.octets ≡ pdv_list context value
    → (user : Piece) × IsPdvList values (context, user) × (user.octets ≡ value)
unfolding pdv_list pdv_fields
pdv_of values context value small (e, one) fits p =
    let number = octets_of INTEGER (uint_octets context) in
    let held = octets_of SINGLE_ASN1_TYPE value in
    let list = octets_longer SEQUENCE (number ++ held) in
    let parts = length-append number held in
    let uint = uint_octets-spell context (omega (arith, small)) in
    let only = only_of values SEQUENCE (number ++ held) (one_octet SEQUENCE (omega arith) (λ q. omega (arith, q))) (omega (arith, fits, list)) p in
    let es : List Element = written INTEGER (uint_octets context) ∷ written SINGLE_ASN1_TYPE value ∷ [] in
    let row : IsRow (number ++ held) es =
    written_more INTEGER (uint_octets context) held (written SINGLE_ASN1_TYPE value ∷ []) (one_octet INTEGER (omega arith) (λ q. omega (arith, q))) (omega (arith, fits, list, parts, octets_longer INTEGER (uint_octets context)))
    (written_last SINGLE_ASN1_TYPE value (one_octet SINGLE_ASN1_TYPE (omega arith) (λ q. omega (arith, q))) (omega (arith, fits, list, parts, octets_longer SINGLE_ASN1_TYPE value))) in
    let from : ℕ × ℕ = (only.0.block, only.0.place) in
    let head = (written INTEGER (uint_octets context)).head + length (uint_octets context) in
    let user : Piece = record { octets = value; block = only.0.block; place = only.0.place + head + (written SINGLE_ASN1_TYPE value).head } in
    let inside : Spot = record { element = e; block = user.block; place = user.place + e.head } in
    (user, (only.0, only.1, placed from es, elements_of only.0 (number ++ held) es only.2 row, (refl, (uint.0, small), refl, refl, inside, (e ∷ [], one, refl))), refl)

user_of : (input : Piece) (context : ℕ) (value : List ℕ) → context < 2 ^ 32 → IsOneElement value → length (pdv_list context value) < 2 ^ 32 → input.octets ≡ user_octets context value
    → (user : Piece) × IsUserData input (context, user) × (user.octets ≡ value)
unfolding user_octets
user_of input context value small one fits p =
    let only = only_of input FULLY_ENCODED_DATA (pdv_list context value) (one_octet FULLY_ENCODED_DATA (omega arith) (λ q. omega (arith, q))) fits p in
    let pdv = pdv_of only.0 context value small one fits only.2 in
    (pdv.0, (only.0, only.1, pdv.1), pdv.2)

-- ---- data

pub data_back : (input : Piece) (context : ℕ) (pdu : List ℕ) → context < 2 ^ 32 → IsOneElement pdu → length (pdv_list context pdu) < 2 ^ 32 → input.octets ≡ data_spdu context pdu
    → (user value : Piece) × IsSpdu input (transfer user) × IsUserData user (context, value) × (value.octets ≡ pdu)
unfolding data_spdu
data_back input context pdu small one fits p =
    let user : Piece = record { octets = user_octets context pdu; block = input.block; place = input.place + 4 } in
    let found = user_of user context pdu small one fits refl in
    (user, found.0, (p, (refl, refl)), found.1, found.2)

-- ---- release

pub release_back : (code : ℕ) (input : Piece) (context : ℕ) (apdu : List ℕ) → context < 2 ^ 32 → IsOneElement apdu → length (field USER_DATA (user_octets context apdu)) ≤ 65535 → input.octets ≡ release_spdu code context apdu
    → (user value : Piece) × HasUser code input (Some user) × IsUserData user (context, value) × (value.octets ≡ apdu)
unfolding release_spdu
release_back code input context apdu small one fits p =
    let unit = unit_of_field code input (field USER_DATA (user_octets context apdu)) fits p in
    let fs : List Field = (USER_DATA, user_octets context apdu) ∷ [] in
    let user = user_of_fields fs unit.0 (user_octets context apdu) (field_fits USER_DATA (user_octets context apdu) fits, tt) ((λ e. absurd (omega (arith, e))), tt) (unit.2 ∙ sym (append-nil (field USER_DATA (user_octets context apdu)))) refl in
    let found = user_of user.0 context apdu small one (release_fits context apdu fits) user.2 in
    (user.0, found.0, (unit.0, unit.1, user.1), found.1, found.2)
