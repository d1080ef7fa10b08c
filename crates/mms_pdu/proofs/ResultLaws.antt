-- The one result of an answer is found exactly where it says one.
use Rattle.std.proofs.Common.{◌≡◌, ℕ, ◌&&◌, true, false, Bool, cond, eqb, List, [], ◌∷◌, length, Option, Some, None, Result, Ok, Err, refl, sym, ◌∙◌, subst, arith}
use Rattle.std.specs.Prelude.{MatchResult, IfOk, IfSome, IfNone}
use Rattle.std.specs.Option.{option_map}
use Rattle.std.proofs.lemmas.Bool.{eqb-true, eqb-false, eq-eqb, ne_eqb, and_parts, and_from}
use Rattle.std.proofs.lemmas.List.{nil_from_length}
use Rattle.list_laws.proofs.Options.{either_way, map_some, chosen, some_is, not_some}
use Rattle.ber_grammar.specs.Octets.{IsBytes}
use Rattle.ber_grammar.specs.Element.{Element, IsRow}
use Rattle.ber_grammar.specs.Fields.{fields_in, only_in, spots, spot_in}
use Rattle.ber_grammar.specs.Place.{Spot, Piece, elements, content_piece, anywhere}
use Rattle.ber_grammar.specs.Reader.{and_then, kept}
use Rattle.ber_grammar.proofs.FieldLaws.{elements_found, elements_again, in_place, only_found, only_again, only_bytes}
use Rattle.ber_grammar.proofs.OctetLaws.{AllBytes, IsRow-bytes}
use Rattle.ber_grammar.proofs.OptionLaws.{then_some, kept_some}
use Rattle.sv_base.specs.Tree.{Seen}
use Rattle.sv_base.specs.declared.value.Value.{Value}
use Rattle.mms_data.specs.declared.fault.DataFault.{DataFault}
use Rattle.mms_data.specs.Grammar.{IsWithin, IsRefusedData}
use Rattle.mms_data.specs.Reading.{data_at}
use Rattle.mms_data.proofs.GrammarLaws.{data_exact, data_again}
use Rattle.mms_elements.specs.Invoke.{below_at}
use Rattle.mms_elements.proofs.TaggedLaws.{below_again, below_found}
use Rattle.mms_pdu.specs.Answer.{is_specification}
use Rattle.mms_pdu.specs.Results.{IsFailure, IsReadResult, IsWriteResult, HasOneRead, IsOneRead, SaysRead, SaysWritten, seen_result, failure_at, read_at, written_at, results_at, only_read, one_read, one_write}
use Rattle.mms_pdu.proofs.AnswerLaws.{specification_found, specification_again}

-- ---- one result

-- a failure, of whatever kind of result
failure_found : {A : Type 0} (s : Spot) (r : Result A ℕ) → IsBytes s.element.content → s.element.tag ≡ 128 → failure_at s ≡ Some r → (code : ℕ) × IsFailure s.element code × (r ≡ Err code)
failure_found s r fits t h =
    let a = map_some (λ code. Err code) (below_at 256 s.element.content) r h in
    let b = below_found 256 s.element.content a.0 fits a.1 in
    (a.0, (t, b.0, b.1), sym a.2)

failure_again : {A : Type 0} (s : Spot) (code : ℕ) → IsFailure s.element code → failure_at {A = A} s ≡ Some (Err code)
failure_again s code h = rw (below_again 256 s.element.content code h.1 h.2) refl

read_found : (s : Spot) (r : Result Seen ℕ) → IsBytes s.element.content → read_at s ≡ Some r → IsReadResult s.element r
unfolding read_at
read_found s r fits h =
    either_way (eqb s.element.tag 128) (failure_at s) (option_map (λ v. Ok v) (kept (data_at 10 s.element))) (Some r) h
    (λ t e. let a = failure_found s r fits (eqb-true s.element.tag 128 t) e in rw a.2 a.1)
    (λ t e.
    let a = map_some (λ v. Ok v) (kept (data_at 10 s.element)) r e in
    let is : IsWithin 10 s.element a.0 = subst (λ (x : Result Seen DataFault). MatchResult x (IsWithin 10 s.element) (IsRefusedData 10 s.element)) (kept_some (data_at 10 s.element) a.0 a.1) (data_exact 10 s.element fits).tells in
    rw (← a.2) (eqb-false s.element.tag 128 t, is))

read_again : (s : Spot) (r : Result Seen ℕ) → IsBytes s.element.content → IsReadResult s.element r → read_at s ≡ Some r
unfolding read_at
read_again s (Err code) fits h = rw (eq-eqb s.element.tag 128 h.0) (failure_again s code h)
read_again s (Ok v) fits h = rw (ne_eqb s.element.tag 128 h.0, data_again 10 s.element v fits h.1) refl

written_found : (s : Spot) (r : Result (Unit {0}) ℕ) → IsBytes s.element.content → written_at s ≡ Some r → IsWriteResult s.element r
unfolding written_at
written_found s r fits h =
    either_way (eqb s.element.tag 128) (failure_at s) (cond (eqb s.element.tag 129 && eqb (length s.element.content) 0) (Some (Ok tt)) None) (Some r) h
    (λ t e. let a = failure_found s r fits (eqb-true s.element.tag 128 t) e in rw a.2 a.1)
    (λ t e.
    let a = chosen (eqb s.element.tag 129 && eqb (length s.element.content) 0) (Some (Ok tt)) r e in
    let p = and_parts (eqb s.element.tag 129) (eqb (length s.element.content) 0) a.0 in
    rw (← some_is (Ok tt) r a.1) (eqb-true s.element.tag 129 p.0, nil_from_length s.element.content (eqb-true (length s.element.content) 0 p.1)))

written_again : (s : Spot) (r : Result (Unit {0}) ℕ) → IsWriteResult s.element r → written_at s ≡ Some r
unfolding written_at
written_again s (Err code) h = rw (eq-eqb s.element.tag 128 h.0) (failure_again s code h)
written_again s (Ok tt) h = rw (ne_eqb s.element.tag 128 (λ e. omega (arith, e, h.0)), eq-eqb s.element.tag 129 h.0, h.1) refl

-- ---- of one variable

results_found : (l : Spot) (r : Result Seen ℕ) → IsBytes l.element.content → only_read l ≡ Some r → HasOneRead l.element r
results_found l r fits h =
    let a = chosen (eqb l.element.tag 161) (and_then (only_in (content_piece l)) read_at) r h in
    let b = then_some (only_in (content_piece l)) read_at r a.1 in
    let row = only_found (content_piece l) b.0 b.1 in
    (eqb-true l.element.tag 161 a.0, (b.0.element, row, read_found b.0 r (only_bytes l.element.content b.0.element fits row) b.2))

results_again : (l : Spot) (r : Result Seen ℕ) → IsBytes l.element.content → HasOneRead l.element r → only_read l ≡ Some r
results_again l r fits (t, (e, row, is)) =
    let a = read_again (spot_in (content_piece l) e) r (only_bytes l.element.content e fits row) is in
    rw (eq-eqb l.element.tag 161 t, only_again (content_piece l) e row, a) refl

behind_specification : (b : Bool) (l : Spot) (r : Result Seen ℕ) → and_then (cond b (Some l) None) only_read ≡ Some r → (b ≡ true) × (only_read l ≡ Some r)
behind_specification true l r h = (refl, h)
behind_specification false l r h = absurd cc

answer_found : (ss : List Spot) (r : Result Seen ℕ) → AllBytes (elements ss) → and_then (results_at ss) only_read ≡ Some r → IsOneRead (elements ss) r
answer_found [] r fits h = absurd cc
answer_found (l ∷ []) r fits h = results_found l r fits.0 h
answer_found (s ∷ l ∷ []) r fits h = let a = behind_specification (is_specification s) l r h in (specification_found s fits.0 a.0, results_found l r fits.1.0 a.1)
answer_found (s ∷ l ∷ t ∷ more) r fits h = absurd cc

answer_again : (ss : List Spot) (r : Result Seen ℕ) → AllBytes (elements ss) → IsOneRead (elements ss) r → and_then (results_at ss) only_read ≡ Some r
answer_again [] r fits h = absurd h
answer_again (l ∷ []) r fits h = results_again l r fits.0 h
answer_again (s ∷ l ∷ []) r fits h = rw (specification_again s fits.0 h.0) (results_again l r fits.1.0 h.1)
answer_again (s ∷ l ∷ t ∷ more) r fits h = absurd h

pub one_read_found : (p : Piece) (r : Result Seen ℕ) → IsBytes p.octets → one_read p ≡ Some r → SaysRead p.octets r
unfolding one_read
one_read_found p r fits h =
    let a = then_some (fields_in p) (λ ss. and_then (results_at ss) only_read) r h in
    let row = elements_found p a.0 a.1 in
    (elements a.0, row, answer_found a.0 r (IsRow-bytes p.octets (elements a.0) fits row) a.2)

pub one_read_again : (p : Piece) (r : Result Seen ℕ) → IsBytes p.octets → SaysRead p.octets r → one_read p ≡ Some r
unfolding one_read
one_read_again p r fits (es, row, is) =
    rw (elements_again p es row) (answer_again (spots p es) r (in_place AllBytes p es (IsRow-bytes p.octets es fits row)) (in_place (λ (x : List Element). IsOneRead x r) p es is))

pub one_write_found : (p : Piece) (r : Result (Unit {0}) ℕ) → IsBytes p.octets → one_write p ≡ Some r → SaysWritten p.octets r
unfolding one_write
one_write_found p r fits h =
    let a = then_some (only_in p) written_at r h in
    let row = only_found p a.0 a.1 in
    (a.0.element, row, written_found a.0 r (only_bytes p.octets a.0.element fits row) a.2)

pub one_write_again : (p : Piece) (r : Result (Unit {0}) ℕ) → SaysWritten p.octets r → one_write p ≡ Some r
unfolding one_write
one_write_again p r (e, row, is) = rw (only_again p e row) (written_again (spot_in p e) r is)

-- ---- what the readers give

pub read_says : {E : Type 0} (x : Result (Option (Result Value ℕ)) E) (p : Piece) → IsBytes p.octets → IfOk x (λ o. option_map seen_result o ≡ one_read p)
    → IfOk x (λ o. IfSome o (λ r. SaysRead p.octets (seen_result r)))
read_says (Ok (Some r)) p fits h = one_read_found p (seen_result r) fits (sym h)
read_says (Ok None) p fits h = tt
read_says (Err e) p fits h = tt

pub read_nothing : {E : Type 0} (x : Result (Option (Result Value ℕ)) E) (p : Piece) → IsBytes p.octets → IfOk x (λ o. option_map seen_result o ≡ one_read p)
    → IfOk x (λ o. IfNone o ((r : Result Seen ℕ) → ¬ SaysRead p.octets r))
read_nothing (Ok (Some r)) p fits h = tt
read_nothing (Ok None) p fits h = λ r says. not_some r (sym (one_read_again p r fits says) ∙ sym h)
read_nothing (Err e) p fits h = tt

pub written_says : (o : Option (Result (Unit {0}) ℕ)) (p : Piece) → IsBytes p.octets → o ≡ one_write p → IfSome o (λ r. SaysWritten p.octets r)
written_says (Some r) p fits h = one_write_found p r fits (sym h)
written_says None p fits h = tt

pub written_nothing : (o : Option (Result (Unit {0}) ℕ)) (p : Piece) → o ≡ one_write p → IfNone o ((r : Result (Unit {0}) ℕ) → ¬ SaysWritten p.octets r)
written_nothing (Some r) p h = tt
written_nothing None p h = λ r says. not_some r (sym (one_write_again p r says) ∙ sym h)

-- ---- one thing at most

pub one_reading : (body : List ℕ) (q r : Result Seen ℕ) → IsBytes body → SaysRead body q → SaysRead body r → q ≡ r
one_reading body q r fits a b = some_is q r (sym (one_read_again (anywhere body) q fits a) ∙ one_read_again (anywhere body) r fits b)

pub one_writing : (body : List ℕ) (q r : Result (Unit {0}) ℕ) → SaysWritten body q → SaysWritten body r → q ≡ r
one_writing body q r a b = some_is q r (sym (one_write_again (anywhere body) q a) ∙ one_write_again (anywhere body) r b)
