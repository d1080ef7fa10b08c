-- The body of an answer is found to be of its form exactly where it is.
use Rattle.std.proofs.Common.{◌≡◌, ℕ, ◌&&◌, inl, inr, true, Bool, cond, eqb, List, [], ◌∷◌, length, Option, Some, None, refl, sym, ◌∙◌, arith}
use Rattle.std.specs.Prelude.{is_some}
use Rattle.std.specs.List.{AllByRecursion, list_all}
use Rattle.std.proofs.lemmas.Bool.{eqb-true, eqb-false, eq-eqb, ne_eqb, and_parts, and_from, cond_both}
use Rattle.std.proofs.lemmas.List.{nil_from_length}
use Rattle.list_laws.proofs.Options.{either_way, some_of}
use Rattle.ber_grammar.specs.Octets.{IsBytes}
use Rattle.ber_grammar.specs.Element.{Element, IsRow}
use Rattle.ber_grammar.specs.Place.{Spot, Piece, elements, content_piece}
use Rattle.ber_grammar.specs.Reader.{and_then}
use Rattle.ber_grammar.proofs.OptionLaws.{then_some}
use Rattle.ber_grammar.proofs.OctetLaws.{AllBytes, IsRow-bytes}
use Rattle.ber_grammar.specs.Fields.{fields_in, only_in, spots, spot_in}
use Rattle.mms_elements.specs.Invoke.{below_at}
use Rattle.mms_pdu.specs.Access.{access_at}
use Rattle.mms_pdu.specs.Datum.{datum_at, value_at}
use Rattle.mms_pdu.specs.Answer.{IsFailed, IsResult, IsWritten, AreAll, IsSpecification, AreResults, IsReadAnswer, IsAnswerBody, holds, is_failed, is_result, is_written, is_specification, are_results, is_read_answer, is_answer_body}
use Rattle.ber_grammar.proofs.FieldLaws.{elements_found, elements_again, in_place, only_found, only_again, only_bytes}
use Rattle.mms_pdu.proofs.DatumLaws.{datum_found, datum_again}
use Rattle.mms_pdu.proofs.AccessLaws.{access_octets, access_found, access_again}
use Rattle.mms_elements.proofs.TaggedLaws.{below_again, below_found}

holds_of : {A : Type 0} (test : A → Bool) (o : Option A) → holds test o ≡ true → (x : A) × (o ≡ Some x) × (test x ≡ true)
holds_of test (Some x) h = (x, refl, h)
holds_of test None h = absurd cc

-- ---- a test of each element

module _ (test : Spot → Bool) (Is : Element → Type 0) where
  abbrev Found : Type 0
  Found = (s : Spot) → IsBytes s.element.content → test s ≡ true → Is s.element

  abbrev Again : Type 0
  Again = (s : Spot) → IsBytes s.element.content → Is s.element → test s ≡ true

  all_found : Found → (ss : List Spot) → AllBytes (elements ss) → list_all test ss ≡ true → AllByRecursion Is (elements ss)
  all_found found [] fits h = tt
  all_found found (s ∷ ss) fits h = let p = and_parts (test s) (list_all test ss) h in (found s fits.0 p.0, all_found found ss fits.1 p.1)

  all_again : Again → (ss : List Spot) → AllBytes (elements ss) → AllByRecursion Is (elements ss) → list_all test ss ≡ true
  all_again again [] fits h = refl
  all_again again (s ∷ ss) fits h = and_from (test s) (list_all test ss) (again s fits.0 h.0) (all_again again ss fits.1 h.1)

  are_found : Found → (p : Piece) → IsBytes p.octets → holds (list_all test) (fields_in p) ≡ true → AreAll Is p.octets
  are_found found p fits h =
      let a = holds_of (list_all test) (fields_in p) h in
      let row = elements_found p a.0 a.1 in
      (elements a.0, row, all_found found a.0 (IsRow-bytes p.octets (elements a.0) fits row) a.2)

  are_again : Again → (p : Piece) → IsBytes p.octets → AreAll Is p.octets → holds (list_all test) (fields_in p) ≡ true
  are_again again p fits (es, row, h) =
      rw (elements_again p es row) (all_again again (spots p es) (in_place AllBytes p es (IsRow-bytes p.octets es fits row)) (in_place (AllByRecursion Is) p es h))

-- ---- results

failed_found : (s : Spot) → IsBytes s.element.content → s.element.tag ≡ 128 → is_failed s ≡ true → IsFailed s.element
failed_found s fits t h =
    let a = some_of (below_at 256 s.element.content) h in
    let b = below_found 256 s.element.content a.0 fits a.1 in
    (t, a.0, b.0, b.1)

failed_again : (s : Spot) → IsFailed s.element → is_failed s ≡ true
failed_again s (t, code, is, lt) = rw (below_again 256 s.element.content code is lt) refl

result_found : (s : Spot) → IsBytes s.element.content → is_result s ≡ true → IsResult s.element
unfolding is_result
result_found s fits h =
    either_way (eqb s.element.tag 128) (is_failed s) (is_some (datum_at s)) true h
    (λ t e. inl (failed_found s fits (eqb-true s.element.tag 128 t) e))
    (λ t e. let a = some_of (datum_at s) e in inr (eqb-false s.element.tag 128 t, value_at a.0, datum_found s a.0 fits a.1))

result_again : (s : Spot) → IsBytes s.element.content → IsResult s.element → is_result s ≡ true
unfolding is_result
result_again s fits (inl failed) = rw (eq-eqb s.element.tag 128 failed.0) (failed_again s failed)
result_again s fits (inr (ne, value, is)) = let a = datum_again s value fits is in rw (ne_eqb s.element.tag 128 ne, a.1) refl

written_found : (s : Spot) → IsBytes s.element.content → is_written s ≡ true → IsWritten s.element
unfolding is_written
written_found s fits h =
    either_way (eqb s.element.tag 128) (is_failed s) (eqb s.element.tag 129 && eqb (length s.element.content) 0) true h
    (λ t e. inl (failed_found s fits (eqb-true s.element.tag 128 t) e))
    (λ t e. let p = and_parts (eqb s.element.tag 129) (eqb (length s.element.content) 0) e in inr (eqb-true s.element.tag 129 p.0, nil_from_length s.element.content (eqb-true (length s.element.content) 0 p.1)))

written_again : (s : Spot) → IsBytes s.element.content → IsWritten s.element → is_written s ≡ true
unfolding is_written
written_again s fits (inl failed) = rw (eq-eqb s.element.tag 128 failed.0) (failed_again s failed)
written_again s fits (inr (t, none)) = rw (ne_eqb s.element.tag 128 (λ e. omega (arith, e, t)), eq-eqb s.element.tag 129 t, none) refl

results_found : (s : Spot) → IsBytes s.element.content → are_results s ≡ true → AreResults s.element
unfolding are_results
results_found s fits h =
    let p = and_parts (eqb s.element.tag 161) (holds (list_all is_result) (fields_in (content_piece s))) h in
    (eqb-true s.element.tag 161 p.0, are_found is_result IsResult result_found (content_piece s) fits p.1)

results_again : (s : Spot) → IsBytes s.element.content → AreResults s.element → are_results s ≡ true
unfolding are_results
results_again s fits (t, are) = rw (eq-eqb s.element.tag 161 t, are_again is_result IsResult result_again (content_piece s) fits are) refl

-- ---- what was read

pub specification_found : (s : Spot) → IsBytes s.element.content → is_specification s ≡ true → IsSpecification s.element
unfolding is_specification
specification_found s fits h =
    let p = and_parts (eqb s.element.tag 160) (is_some (and_then (only_in (content_piece s)) access_at)) h in
    let a = some_of (and_then (only_in (content_piece s)) access_at) p.1 in
    let b = then_some (only_in (content_piece s)) access_at a.0 a.1 in
    let row = only_found (content_piece s) b.0 b.1 in
    (eqb-true s.element.tag 160 p.0, b.0.element, row, access_octets a.0, access_found b.0 a.0 (only_bytes s.element.content b.0.element fits row) b.2)

pub specification_again : (s : Spot) → IsBytes s.element.content → IsSpecification s.element → is_specification s ≡ true
unfolding is_specification
specification_again s fits (t, k, row, access, is) =
    let a = access_again (spot_in (content_piece s) k) access (only_bytes s.element.content k fits row) is in
    rw (eq-eqb s.element.tag 160 t, only_again (content_piece s) k row, a.1) refl

read_found : (ss : List Spot) → AllBytes (elements ss) → is_read_answer ss ≡ true → IsReadAnswer (elements ss)
read_found [] fits h = absurd cc
read_found (r ∷ []) fits h = results_found r fits.0 h
read_found (s ∷ r ∷ []) fits h = let p = and_parts (is_specification s) (are_results r) h in (specification_found s fits.0 p.0, results_found r fits.1.0 p.1)
read_found (s ∷ r ∷ t ∷ more) fits h = absurd cc

read_again : (ss : List Spot) → AllBytes (elements ss) → IsReadAnswer (elements ss) → is_read_answer ss ≡ true
read_again [] fits h = absurd h
read_again (r ∷ []) fits h = results_again r fits.0 h
read_again (s ∷ r ∷ []) fits h = and_from (is_specification s) (are_results r) (specification_again s fits.0 h.0) (results_again r fits.1.0 h.1)
read_again (s ∷ r ∷ t ∷ more) fits h = absurd h

-- ---- bodies

read_body : (p : Piece) → IsBytes p.octets → holds is_read_answer (fields_in p) ≡ true → (es : List Element) × IsRow p.octets es × IsReadAnswer es
read_body p fits h =
    let a = holds_of is_read_answer (fields_in p) h in
    let row = elements_found p a.0 a.1 in
    (elements a.0, row, read_found a.0 (IsRow-bytes p.octets (elements a.0) fits row) a.2)

pub body_found : (tag : ℕ) (p : Piece) → IsBytes p.octets → is_answer_body tag p ≡ true → IsAnswerBody tag p.octets
unfolding is_answer_body
body_found tag p fits h = record {
  read = λ t. read_body p fits (sym (rw (eq-eqb tag 164 t) refl) ∙ h);
  written = λ t. are_found is_written IsWritten written_found p fits (sym (rw (ne_eqb tag 164 (λ e. omega (arith, e, t)), eq-eqb tag 165 t) refl) ∙ h);
}

pub body_again : (tag : ℕ) (p : Piece) → IsBytes p.octets → IsAnswerBody tag p.octets → is_answer_body tag p ≡ true
unfolding is_answer_body
body_again tag p fits h =
    cond_both (eqb tag 164) (holds is_read_answer (fields_in p)) (cond (eqb tag 165) (holds (list_all is_written) (fields_in p)) true) (λ b. b ≡ true)
    (λ e. let a = h.read (eqb-true tag 164 e) in rw (elements_again p a.0 a.1) (read_again (spots p a.0) (in_place AllBytes p a.0 (IsRow-bytes p.octets a.0 fits a.1)) (in_place IsReadAnswer p a.0 a.2)))
    (λ e. cond_both (eqb tag 165) (holds (list_all is_written) (fields_in p)) true (λ b. b ≡ true)
    (λ d. are_again is_written IsWritten written_again p fits (h.written (eqb-true tag 165 d)))
    (λ d. refl))
