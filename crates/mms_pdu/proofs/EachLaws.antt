-- What is read of each element of a content.
use Rattle.std.proofs.Common.{◌≡◌, ℕ, suc, true, List, [], ◌∷◌, length, map, Option, Some, None, refl, sym, ap, subst, ◌∙◌}
use Rattle.std.specs.Prelude.{is_some}
use Rattle.std.specs.List.{filter_map, cons_option}
use Rattle.std.proofs.lemmas.Bool.{and_parts}
use Rattle.list_laws.proofs.Options.{some_is, chosen}
use Rattle.ber_grammar.specs.Element.{Element, IsRow}
use Rattle.ber_grammar.specs.Fields.{fields_in, spots}
use Rattle.ber_grammar.specs.Octets.{IsBytes}
use Rattle.ber_grammar.specs.Place.{Spot, Piece, elements}
use Rattle.ber_grammar.proofs.FieldLaws.{fields_none, elements_found, elements_again, in_place}
use Rattle.ber_grammar.proofs.OctetLaws.{AllBytes, IsRow-bytes}
use Rattle.ber_grammar.proofs.OptionLaws.{then_some}
use Rattle.mms_pdu.specs.Each.{Each, is_read, are_read, each_at, each_in}

-- ---- no octet

pub each_none : {A : Type 0} (read : Spot → Option A) (p : Piece) → p.octets ≡ [] → each_in read p ≡ Some []
each_none read p none = rw (fields_none p none) refl

-- ---- each element

module _ {A B : Type 0} (read : Spot → Option A) (Is : Element → B → Type 0) (forget : A → B) where
  -- what is read of an element is what it is
  abbrev pub Found : Type 0
  Found = (s : Spot) (x : A) → IsBytes s.element.content → read s ≡ Some x → Is s.element (forget x)

  -- what an element is is read of it
  abbrev pub Again : Type 0
  Again = (s : Spot) (y : B) → IsBytes s.element.content → Is s.element y → (x : A) × (read s ≡ Some x) × (forget x ≡ y)

  one_found : Found → (s : Spot) (ss : List Spot) (o : Option A) → IsBytes s.element.content → read s ≡ o → is_some o ≡ true → Each Is (elements ss) (map forget (filter_map read ss))
      → Each Is (s.element ∷ elements ss) (map forget (cons_option o (filter_map read ss)))
  one_found found s ss (Some x) fits e h rest = (found s x fits e, rest)
  one_found found s ss None fits e h rest = absurd cc

  all_found : Found → (ss : List Spot) → AllBytes (elements ss) → are_read read ss ≡ true → Each Is (elements ss) (map forget (filter_map read ss))
  all_found found [] fits h = tt
  all_found found (s ∷ ss) fits h =
      let p = and_parts (is_read read s) (are_read read ss) h in
      one_found found s ss (read s) fits.0 refl p.0 (all_found found ss fits.1 p.1)

  all_again : Again → (ss : List Spot) (ys : List B) → AllBytes (elements ss) → Each Is (elements ss) ys → (are_read read ss ≡ true) × (map forget (filter_map read ss) ≡ ys)
  all_again again [] [] fits h = (refl, refl)
  all_again again [] (y ∷ ys) fits h = absurd h
  all_again again (s ∷ ss) [] fits h = absurd h
  all_again again (s ∷ ss) (y ∷ ys) fits h =
      let x = again s y fits.0 h.0 in
      let rest = all_again again ss ys fits.1 h.1 in
      (rw (x.1, rest.0) refl, rw (x.1, x.2, rest.1) refl)

  pub each_found : Found → (p : Piece) (xs : List A) → IsBytes p.octets → each_in read p ≡ Some xs → (es : List Element) × IsRow p.octets es × Each Is es (map forget xs)
  each_found found p xs fits h =
      let a = then_some (fields_in p) (each_at read) xs h in
      let b = chosen (are_read read a.0) (Some (filter_map read a.0)) xs a.2 in
      let row = elements_found p a.0 a.1 in
      (elements a.0, row, subst (λ (ys : List A). Each Is (elements a.0) (map forget ys)) (some_is (filter_map read a.0) xs b.1) (all_found found a.0 (IsRow-bytes p.octets (elements a.0) fits row) b.0))

  pub each_again : Again → (p : Piece) (es : List Element) (ys : List B) → IsBytes p.octets → IsRow p.octets es → Each Is es ys → (xs : List A) × (each_in read p ≡ Some xs) × (map forget xs ≡ ys)
  each_again again p es ys fits row h =
      let all = all_again again (spots p es) ys (in_place AllBytes p es (IsRow-bytes p.octets es fits row)) (in_place (λ x. Each Is x ys) p es h) in
      (filter_map read (spots p es), rw (elements_again p es row, all.0) refl, all.1)

all_length : {A : Type 0} (read : Spot → Option A) (ss : List Spot) → are_read read ss ≡ true → length (filter_map read ss) ≡ length ss
all_length read [] h = refl
all_length {A} read (s ∷ ss) h =
    let p = and_parts (is_read read s) (are_read read ss) h in
    counted (read s) (filter_map read ss) (length ss) p.0 (all_length read ss p.1)
  where
    counted : {A : Type 0} (o : Option A) (xs : List A) (n : ℕ) → is_some o ≡ true → length xs ≡ n → length (cons_option o xs) ≡ suc n
    counted (Some x) xs n h e = ap suc e
    counted None xs n h e = absurd cc

-- as much is read as there are elements
pub each_fields : {A : Type 0} (read : Spot → Option A) (p : Piece) (xs : List A) → each_in read p ≡ Some xs → (ss : List Spot) × (fields_in p ≡ Some ss) × (length ss ≡ length xs)
each_fields read p xs h =
    let a = then_some (fields_in p) (each_at read) xs h in
    let b = chosen (are_read read a.0) (Some (filter_map read a.0)) xs a.2 in
    (a.0, a.1, sym (all_length read a.0 b.0) ∙ ap length (some_is (filter_map read a.0) xs b.1))
