-- A CONNECT that is written is read back.
use Rattle.std.proofs.Common.{◌≡◌, ℕ, ◌+◌, ◌<◌, ◌≤◌, ◌^◌, true, List, [], ◌∷◌, ◌++◌, length, Some, inl, refl, sym, ap, ◌∙◌, append-nil, arith}
use Rattle.ber_grammar.specs.Element.{Element, IsRow}
use Rattle.ber_grammar.specs.Place.{Spot, Piece, placed, content_piece}
use Rattle.ber_write.specs.Minimal.{written, octets_of}
use Rattle.ber_write.proofs.WrittenLaws.{one_octet, written_more, written_last}
use Rattle.session_pres.specs.declared.codes.TheConstants.{CONNECT, CONNECT_ACCEPT_ITEM, USER_DATA, CONTEXT_DEFINITION_LIST, TRANSFER_SYNTAX, FULLY_ENCODED_DATA, INTEGER, OBJECT_IDENTIFIER, SEQUENCE}
use Rattle.session_pres.specs.Units.{IsSpdu, connect}
use Rattle.session_pres.specs.ContextList.{Context, Chosen, ber, acse, mms, IsDefinition, IsContextList, IsChosen}
use Rattle.session_pres.specs.Presentation.{Request, request, IsCp}
use Rattle.session_pres.specs.Written.{pdv_list, user_octets, field, connect_item, IsOneElement}
use Rattle.session_pres.specs.WrittenPpdu.{set_content, ppdu, cp_head, cp_octets, connect_parameters, connect_spdu}
use Rattle.session_pres.proofs.WritingLaws.{connect_fits}
use Rattle.session_pres.proofs.FieldLaws.{Field, user_of_fields, unit_of_field}
use Rattle.session_pres.proofs.ReadBackLaws.{elements_of, pdv_of}
use Rattle.session_pres.proofs.PpduLaws.{parameters_of}

-- ---- a definition

abbrev offered_with : ℕ → List ℕ → List ℕ
offered_with n syntax = octets_of INTEGER (n ∷ []) ++ (octets_of OBJECT_IDENTIFIER syntax ++ octets_of SEQUENCE (octets_of OBJECT_IDENTIFIER ber))

abbrev offer : ℕ → List ℕ → Context
offer n syntax = record { number = n; syntax = syntax; has_ber = true }

definition : (s : Spot) (n : ℕ) (syntax : List ℕ) → n < 128 → length syntax < 128 → s.element.tag ≡ SEQUENCE → s.element.content ≡ offered_with n syntax → IsDefinition s (offer n syntax)
definition s n syntax small short t p =
    let transfer = octets_of SEQUENCE (octets_of OBJECT_IDENTIFIER ber) in
    let es : List Element = written INTEGER (n ∷ []) ∷ written OBJECT_IDENTIFIER syntax ∷ written SEQUENCE (octets_of OBJECT_IDENTIFIER ber) ∷ [] in
    let row : IsRow (offered_with n syntax) es =
    written_more INTEGER (n ∷ []) (octets_of OBJECT_IDENTIFIER syntax ++ transfer) (written OBJECT_IDENTIFIER syntax ∷ written SEQUENCE (octets_of OBJECT_IDENTIFIER ber) ∷ []) (one_octet INTEGER (omega arith) (λ q. omega (arith, q))) (omega arith)
    (written_more OBJECT_IDENTIFIER syntax transfer (written SEQUENCE (octets_of OBJECT_IDENTIFIER ber) ∷ []) (one_octet OBJECT_IDENTIFIER (omega arith) (λ q. omega (arith, q))) (omega (arith, short))
    (written_last SEQUENCE (octets_of OBJECT_IDENTIFIER ber) (one_octet SEQUENCE (omega arith) (λ q. omega (arith, q))) (omega arith))) in
    let last : Piece = record { octets = octets_of OBJECT_IDENTIFIER ber; block = s.block; place = s.place + ((written INTEGER (n ∷ [])).head + 1) + ((written OBJECT_IDENTIFIER syntax).head + length syntax) + 2 } in
    let ts : List Element = written OBJECT_IDENTIFIER ber ∷ [] in
    let rows : IsRow (octets_of OBJECT_IDENTIFIER ber) ts = written_last OBJECT_IDENTIFIER ber (one_octet OBJECT_IDENTIFIER (omega arith) (λ q. omega (arith, q))) (omega arith) in (
      t,
      placed (s.block, s.place) es,
      elements_of (content_piece s) (offered_with n syntax) es p row,
      (refl, ((omega arith, small, omega arith, omega (arith, small)), omega (arith, small)), refl, refl, refl, placed (last.block, last.place) ts, elements_of last (octets_of OBJECT_IDENTIFIER ber) ts refl rows, inl (refl, refl)),
    )

abbrev two : List ℕ
two = octets_of SEQUENCE (offered_with 1 acse) ++ octets_of SEQUENCE (offered_with 3 mms)

abbrev contexts : List Context
contexts = offer 1 acse ∷ offer 3 mms ∷ []

list_back : (content : Piece) → content.octets ≡ two → IsContextList content contexts
list_back content p =
    let es : List Element = written SEQUENCE (offered_with 1 acse) ∷ written SEQUENCE (offered_with 3 mms) ∷ [] in
    let row : IsRow two es =
    written_more SEQUENCE (offered_with 1 acse) (octets_of SEQUENCE (offered_with 3 mms)) (written SEQUENCE (offered_with 3 mms) ∷ []) (one_octet SEQUENCE (omega arith) (λ q. omega (arith, q))) (omega arith)
    (written_last SEQUENCE (offered_with 3 mms) (one_octet SEQUENCE (omega arith) (λ q. omega (arith, q))) (omega arith)) in
    let first : Spot = record { element = written SEQUENCE (offered_with 1 acse); block = content.block; place = content.place + 2 } in
    let second : Spot = record { element = written SEQUENCE (offered_with 3 mms); block = content.block; place = content.place + (2 + 15) + 2 } in
    (placed (content.block, content.place) es, elements_of content two es p row, (definition first 1 acse (omega arith) (omega arith) refl refl, (definition second 3 mms (omega arith) (omega arith) refl refl, tt)))

abbrev chosen_acse : Chosen
chosen_acse = record { place = 0; number = 1 }

abbrev chosen_mms : Chosen
chosen_mms = record { place = 1; number = 3 }

is_acse : IsChosen acse contexts chosen_acse
is_acse = (offer 1 acse, (refl, refl), refl, refl)

other : acse ≡ mms → ⊥
other e = omega (arith, ap (λ (x : List ℕ). length x) e)

is_mms : IsChosen mms contexts chosen_mms
is_mms = (offer 3 mms, (other, (refl, refl)), refl, refl)

-- ---- the CP

abbrev selector : List ℕ
selector = 0 ∷ 0 ∷ 0 ∷ 1 ∷ []

pub cp_back : (input : Piece) (aarq : List ℕ) → IsOneElement aarq → length (set_content (cp_head ++ user_octets 1 aarq)) < 2 ^ 32 → length (pdv_list 1 aarq) < 2 ^ 32 → input.octets ≡ cp_octets aarq
    → (said : Request) × IsCp input said × (said.acse ≡ 1) × (said.mms ≡ 3) × (said.list ≡ true ∷ true ∷ []) × (said.user.octets ≡ aarq)
unfolding cp_octets user_octets
cp_back input aarq one fits small p =
    let whole = cp_head ++ octets_of FULLY_ENCODED_DATA (pdv_list 1 aarq) in
    let parameters = parameters_of input whole fits p in
    let last = octets_of FULLY_ENCODED_DATA (pdv_list 1 aarq) in
    let es : List Element = written TRANSFER_SYNTAX selector ∷ written 130 selector ∷ written CONTEXT_DEFINITION_LIST two ∷ written FULLY_ENCODED_DATA (pdv_list 1 aarq) ∷ [] in
    let row : IsRow whole es =
    written_more TRANSFER_SYNTAX selector (octets_of 130 selector ++ (octets_of CONTEXT_DEFINITION_LIST two ++ last)) (written 130 selector ∷ written CONTEXT_DEFINITION_LIST two ∷ written FULLY_ENCODED_DATA (pdv_list 1 aarq) ∷ []) (one_octet TRANSFER_SYNTAX (omega arith) (λ q. omega (arith, q))) (omega arith)
    (written_more 130 selector (octets_of CONTEXT_DEFINITION_LIST two ++ last) (written CONTEXT_DEFINITION_LIST two ∷ written FULLY_ENCODED_DATA (pdv_list 1 aarq) ∷ []) (one_octet 130 (omega arith) (λ q. omega (arith, q))) (omega arith)
    (written_more CONTEXT_DEFINITION_LIST two last (written FULLY_ENCODED_DATA (pdv_list 1 aarq) ∷ []) (one_octet CONTEXT_DEFINITION_LIST (omega arith) (λ q. omega (arith, q))) (omega arith)
    (written_last FULLY_ENCODED_DATA (pdv_list 1 aarq) (one_octet FULLY_ENCODED_DATA (omega arith) (λ q. omega (arith, q))) small))) in
    let at = parameters.0 in
    let content : Piece = record { octets = two; block = at.block; place = at.place + 6 + 6 + 2 } in
    let values : Piece = record { octets = pdv_list 1 aarq; block = at.block; place = at.place + 6 + 6 + 37 + (written FULLY_ENCODED_DATA (pdv_list 1 aarq)).head } in
    let pdv = pdv_of values 1 aarq (omega arith) one small refl in (
      request contexts chosen_acse chosen_mms pdv.0,
      (
        at,
        parameters.1,
        (
          placed (at.block, at.place) es,
          elements_of at whole es parameters.2 row,
          (content, refl, (contexts, list_back content refl, (chosen_acse, is_acse, (chosen_mms, is_mms, (pdv.0, (values, refl, pdv.1), refl))))),
        ),
      ),
      refl,
      refl,
      refl,
      pdv.2,
    )

pub connect_back : (input : Piece) (aarq : List ℕ) → IsOneElement aarq → length (connect_parameters aarq) ≤ 65535 → input.octets ≡ connect_spdu aarq
    → (cp : Piece) × (said : Request) × IsSpdu input (connect cp) × IsCp cp said × (said.acse ≡ 1) × (said.mms ≡ 3) × (said.list ≡ true ∷ true ∷ []) × (said.user.octets ≡ aarq)
unfolding connect_spdu connect_parameters field cp_octets
connect_back input aarq one fits p =
    let cp = ppdu (cp_head ++ user_octets 1 aarq) in
    let fit = connect_fits aarq fits in
    let unit = unit_of_field CONNECT input (connect_item ++ field USER_DATA cp) fits p in
    let fs : List Field = (CONNECT_ACCEPT_ITEM, 0x13 ∷ 1 ∷ 0 ∷ 0x16 ∷ 1 ∷ 2 ∷ []) ∷ (0x14, 0 ∷ 2 ∷ []) ∷ (0x33, 0 ∷ 1 ∷ []) ∷ (0x34, 0 ∷ 1 ∷ []) ∷ (USER_DATA, cp) ∷ [] in
    let inner : List Field = (0x13, 0 ∷ []) ∷ (0x16, 2 ∷ []) ∷ [] in
    let user = user_of_fields fs unit.0 cp (omega arith, (omega arith, (omega arith, (omega arith, (fit.0, tt)))))
    ((λ e. (inner, (omega arith, (omega arith, tt)), refl)), ((λ e. absurd (omega (arith, e))), ((λ e. absurd (omega (arith, e))), ((λ e. absurd (omega (arith, e))), ((λ e. absurd (omega (arith, e))), tt)))))
    (unit.2 ∙ ap (λ (x : List ℕ). connect_item ++ x) (sym (append-nil (field USER_DATA cp)))) refl in
    let found = cp_back user.0 aarq one fit.1 fit.2 user.2 in
    (user.0, found.0, (Some user.0, (unit.0, unit.1, user.1), refl), found.1, found.2, found.3, found.4, found.5)
