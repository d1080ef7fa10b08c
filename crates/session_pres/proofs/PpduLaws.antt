-- A CP and a CPA that are written are read back.
use Rattle.std.proofs.Common.{◌≡◌, ℕ, ◌+◌, ◌<◌, ◌≤◌, ◌^◌, true, List, [], ◌∷◌, ◌++◌, length, Some, inl, refl, sym, ap, ◌∙◌, append-nil, arith}
use Rattle.std.specs.List.{flat_map}
use Rattle.std.proofs.lemmas.List.{length-append}
use Rattle.ber_grammar.specs.Element.{Element, IsRow}
use Rattle.ber_grammar.specs.Place.{Spot, Piece, placed, content_piece}
use Rattle.ber_write.specs.Minimal.{written, octets_of}
use Rattle.ber_write.proofs.WrittenLaws.{one_octet, written_more, written_last}
use Rattle.ber_write.proofs.LengthLaws.{octets_longer}
use Rattle.session_pres.specs.declared.codes.TheConstants.{ACCEPT, CONNECT_ACCEPT_ITEM, USER_DATA, MODE_SELECTOR, MODE_VALUE, NORMAL_MODE_PARAMETERS, CONTEXT_RESULT_LIST, RESULT, TRANSFER_SYNTAX, FULLY_ENCODED_DATA, SEQUENCE, SET}
use Rattle.session_pres.specs.ContextList.{ber}
use Rattle.session_pres.specs.Presentation.{IsNormal, HasParameters, IsAcceptance, IsCpa, IsAc}
use Rattle.session_pres.specs.Written.{pdv_list, user_octets, field, accept_item, accept_parameters, accept_spdu, IsOneElement}
use Rattle.session_pres.specs.WrittenPpdu.{normal_mode, set_content, ppdu, result_octets, cpa_parameters, cpa_octets}
use Rattle.session_pres.proofs.WritingLaws.{accept_fits, cpa_fits}
use Rattle.session_pres.proofs.FieldLaws.{Field, user_of_fields, unit_of_field}
use Rattle.session_pres.proofs.ReadBackLaws.{only_of, elements_of, pdv_of}

-- ---- the parameters of a PPDU

pub parameters_of : (input : Piece) (parameters : List ℕ) → length (set_content parameters) < 2 ^ 32 → input.octets ≡ ppdu parameters → (part : Piece) × HasParameters input part × (part.octets ≡ parameters)
unfolding ppdu set_content
parameters_of input parameters fits p =
    let only = only_of input SET (normal_mode ++ octets_of NORMAL_MODE_PARAMETERS parameters) (one_octet SET (omega arith) (λ q. omega (arith, q))) fits p in
    let es : List Element = written MODE_SELECTOR (0x80 ∷ 0x01 ∷ 0x01 ∷ []) ∷ written NORMAL_MODE_PARAMETERS parameters ∷ [] in
    let row : IsRow (normal_mode ++ octets_of NORMAL_MODE_PARAMETERS parameters) es =
    written_more MODE_SELECTOR (0x80 ∷ 0x01 ∷ 0x01 ∷ []) (octets_of NORMAL_MODE_PARAMETERS parameters) (written NORMAL_MODE_PARAMETERS parameters ∷ []) (one_octet MODE_SELECTOR (omega arith) (λ q. omega (arith, q))) (omega arith)
    (written_last NORMAL_MODE_PARAMETERS parameters (one_octet NORMAL_MODE_PARAMETERS (omega arith) (λ q. omega (arith, q))) (omega (arith, fits, length-append normal_mode (octets_of NORMAL_MODE_PARAMETERS parameters), octets_longer NORMAL_MODE_PARAMETERS parameters))) in
    let set = placed (only.0.block, only.0.place) es in
    let selector : Piece = record { octets = 0x80 ∷ 0x01 ∷ 0x01 ∷ []; block = only.0.block; place = only.0.place + (written MODE_SELECTOR (0x80 ∷ 0x01 ∷ 0x01 ∷ [])).head } in
    let value : List Element = written MODE_VALUE (1 ∷ []) ∷ [] in
    let mode : Piece = record { octets = 1 ∷ []; block = selector.block; place = selector.place + (written MODE_VALUE (1 ∷ [])).head } in
    let inner : IsRow selector.octets value = written_last MODE_VALUE (1 ∷ []) (one_octet MODE_VALUE (omega arith) (λ q. omega (arith, q))) (omega arith) in
    let normal : IsNormal set mode = (selector, refl, (placed (selector.block, selector.place) value, (value, inner, refl), inl (refl, refl)), refl) in
    let part : Piece = record { octets = parameters; block = only.0.block; place = only.0.place + ((written MODE_SELECTOR (0x80 ∷ 0x01 ∷ 0x01 ∷ [])).head + 3) + (written NORMAL_MODE_PARAMETERS parameters).head } in
    (part, (only.0, only.1, (set, elements_of only.0 (normal_mode ++ octets_of NORMAL_MODE_PARAMETERS parameters) es only.2 row, (mode, normal, refl))), refl)

-- ---- CPA

abbrev result_content : List ℕ
result_content = 0x80 ∷ 0x01 ∷ 0x00 ∷ 0x81 ∷ 0x02 ∷ 0x51 ∷ 0x01 ∷ []

acceptance : (s : Spot) → s.element.tag ≡ SEQUENCE → s.element.content ≡ result_content → IsAcceptance s
acceptance s t p =
    let es : List Element = written RESULT (0 ∷ []) ∷ written TRANSFER_SYNTAX ber ∷ [] in
    let row : IsRow result_content es =
    written_more RESULT (0 ∷ []) (octets_of TRANSFER_SYNTAX ber) (written TRANSFER_SYNTAX ber ∷ []) (one_octet RESULT (omega arith) (λ q. omega (arith, q))) (omega arith)
    (written_last TRANSFER_SYNTAX ber (one_octet TRANSFER_SYNTAX (omega arith) (λ q. omega (arith, q))) (omega arith)) in (
      t,
      placed (s.block, s.place) es,
      elements_of (content_piece s) result_content es p row,
      record { octets = 0 ∷ []; block = s.block; place = s.place + 2 },
      record { octets = ber; block = s.block; place = s.place + 3 + 2 },
      refl,
      refl,
      refl,
      refl,
    )

abbrev both : List ℕ
both = flat_map result_octets (true ∷ true ∷ [])

pub cpa_back : (input : Piece) (aare : List ℕ) → IsOneElement aare → length (set_content (cpa_parameters (true ∷ true ∷ []) 1 aare)) < 2 ^ 32 → input.octets ≡ cpa_octets (true ∷ true ∷ []) 1 aare
    → (user : Piece) × IsCpa input user × (user.octets ≡ aare)
unfolding cpa_octets cpa_parameters user_octets
cpa_back input aare one fits p =
    let fit = cpa_fits (true ∷ true ∷ []) 1 aare fits in
    let parameters = parameters_of input (octets_of CONTEXT_RESULT_LIST both ++ octets_of FULLY_ENCODED_DATA (pdv_list 1 aare)) fits p in
    let es : List Element = written CONTEXT_RESULT_LIST both ∷ written FULLY_ENCODED_DATA (pdv_list 1 aare) ∷ [] in
    let row : IsRow (octets_of CONTEXT_RESULT_LIST both ++ octets_of FULLY_ENCODED_DATA (pdv_list 1 aare)) es =
    written_more CONTEXT_RESULT_LIST both (octets_of FULLY_ENCODED_DATA (pdv_list 1 aare)) (written FULLY_ENCODED_DATA (pdv_list 1 aare) ∷ []) (one_octet CONTEXT_RESULT_LIST (omega arith) (λ q. omega (arith, q))) (omega arith)
    (written_last FULLY_ENCODED_DATA (pdv_list 1 aare) (one_octet FULLY_ENCODED_DATA (omega arith) (λ q. omega (arith, q))) fit.1) in
    let at = parameters.0 in
    let fields = placed (at.block, at.place) es in
    let content : Piece = record { octets = both; block = at.block; place = at.place + 2 } in
    let values : Piece = record { octets = pdv_list 1 aare; block = at.block; place = at.place + (2 + length both) + (written FULLY_ENCODED_DATA (pdv_list 1 aare)).head } in
    let rs : List Element = written SEQUENCE result_content ∷ written SEQUENCE result_content ∷ [] in
    let rows : IsRow both rs =
    written_more SEQUENCE result_content (octets_of SEQUENCE result_content) (written SEQUENCE result_content ∷ []) (one_octet SEQUENCE (omega arith) (λ q. omega (arith, q))) (omega arith)
    (written_last SEQUENCE result_content (one_octet SEQUENCE (omega arith) (λ q. omega (arith, q))) (omega arith)) in
    let first : Spot = record { element = written SEQUENCE result_content; block = content.block; place = content.place + 2 } in
    let second : Spot = record { element = written SEQUENCE result_content; block = content.block; place = content.place + (2 + 7) + 2 } in
    let pdv = pdv_of values 1 aare (omega arith) one fit.1 refl in (
      pdv.0,
      (
        at,
        parameters.1,
        (
          fields,
          elements_of at (octets_of CONTEXT_RESULT_LIST both ++ octets_of FULLY_ENCODED_DATA (pdv_list 1 aare)) es parameters.2 row,
          (
            content,
            refl,
            (
              placed (content.block, content.place) rs,
              elements_of content both rs refl rows,
              (first, (refl, acceptance first refl refl), (second, (refl, acceptance second refl refl), (values, refl, pdv.1))),
            ),
          ),
        ),
      ),
      pdv.2,
    )

set_fits : (aare : List ℕ) → length (cpa_octets (true ∷ true ∷ []) 1 aare) ≤ 65535 → length (set_content (cpa_parameters (true ∷ true ∷ []) 1 aare)) < 2 ^ 32
unfolding cpa_octets ppdu
set_fits aare fits = omega (arith, fits, octets_longer SET (set_content (cpa_parameters (true ∷ true ∷ []) 1 aare)))

pub accept_back : (input : Piece) (aare : List ℕ) → IsOneElement aare → length (accept_parameters (cpa_octets (true ∷ true ∷ []) 1 aare)) ≤ 65535 → input.octets ≡ accept_spdu (cpa_octets (true ∷ true ∷ []) 1 aare)
    → (user : Piece) × IsAc input user × (user.octets ≡ aare)
unfolding accept_spdu accept_parameters field
accept_back input aare one fits p =
    let cpa = cpa_octets (true ∷ true ∷ []) 1 aare in
    let fit = accept_fits cpa fits in
    let unit = unit_of_field ACCEPT input (accept_item ++ field USER_DATA cpa) fits p in
    let fs : List Field = (CONNECT_ACCEPT_ITEM, 0x13 ∷ 1 ∷ 0 ∷ 0x16 ∷ 1 ∷ 2 ∷ []) ∷ (0x14, 0 ∷ 2 ∷ []) ∷ (USER_DATA, cpa) ∷ [] in
    let inner : List Field = (0x13, 0 ∷ []) ∷ (0x16, 2 ∷ []) ∷ [] in
    let user = user_of_fields fs unit.0 cpa (omega arith, (omega arith, (fit, tt))) ((λ e. (inner, (omega arith, (omega arith, tt)), refl)), ((λ e. absurd (omega (arith, e))), ((λ e. absurd (omega (arith, e))), tt)))
    (unit.2 ∙ ap (λ (x : List ℕ). accept_item ++ x) (sym (append-nil (field USER_DATA cpa)))) refl in
    let set = set_fits aare fit in
    let found = cpa_back user.0 aare one set user.2 in
    (found.0, (user.0, (Some user.0, (unit.0, unit.1, user.1), refl), found.1), found.2)
