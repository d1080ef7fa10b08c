-- The answer to a CP that came in one TSDU fits an SPDU: each context of its list takes more octets than its result does.
use Rattle.std.proofs.Common.{◌≡◌, ℕ, zero, suc, ◌+◌, ◌-◌, ◌*◌, ◌<◌, ◌≤◌, ◌^◌, Bool, true, false, cond, eqb, List, [], ◌∷◌, length, ◌++◌, Option, Some, None, Result, Ok, Err, refl, sym, ap, ◌∙◌, ◌⊎◌, inl, inr, arith}
use Rattle.std.specs.Prelude.{min, MatchResult, ◌||◌}
use Rattle.std.specs.List.{flat_map}
use Rattle.std.proofs.lemmas.Bool.{eqb-true}
use Rattle.std.proofs.lemmas.List.{length-append}
use Rattle.ber_grammar.specs.Element.{Element, IsLength, IsRow}
use Rattle.ber_grammar.specs.Place.{Piece, Spot, placed, content_piece}
use Rattle.ber_grammar.specs.Reader.{◌>>=◌}
use Rattle.ber_grammar.proofs.ElementLaws.{IsTag-some, Begins-length}
use Rattle.ber_write.specs.Minimal.{octets_of}
use Rattle.session_pres.specs.declared.codes.TheConstants.{CONNECT, USER_DATA, NORMAL_MODE_PARAMETERS, CONTEXT_DEFINITION_LIST, CONTEXT_RESULT_LIST, SET}
use Rattle.session_pres.specs.declared.fault.SpFault.{SpFault}
use Rattle.ber_grammar.specs.Fields.{AreFields, IsOnly, first_with}
use Rattle.session_pres.specs.ContextList.{Context, AreContextFields, AreDefinitions, IsContextList, flags_from}
use Rattle.session_pres.specs.Presentation.{Request, HasParameters, IsCp, IsCpRefused}
use Rattle.session_pres.specs.PresentationReading.{cp_at}
use Rattle.ber_grammar.specs.Place.{anywhere}
use Rattle.session_pres.specs.Plain.{told, connects, Asked, asked, spdu_from, cp_from}
use Rattle.session_pres.specs.Written.{user_octets, accept_parameters}
use Rattle.session_pres.specs.WrittenPpdu.{set_content, result_octets, cpa_parameters, cpa_octets}
use Rattle.ber_grammar.specs.Reader.{first_of_two}
use Rattle.ber_write.proofs.LengthLaws.{octets_few}
use Rattle.session_pres.specs.Parameters.{Parameter, last_of, AreParameters}
use Rattle.session_pres.specs.Units.{Seen, HasData, IsSpdu, IsSpduRefused, connect, transfer, finish, abort}
use Rattle.session_pres.specs.UnitReading.{spdu_at}
use Rattle.session_pres.proofs.UnitLaws.{spdu_exact}
use Rattle.session_pres.proofs.PresentationLaws.{cp_exact}
use Rattle.session_pres.proofs.FitLaws.{accept_short, user_few, set_few, ppdu_few}

-- ---- how many octets elements take

abbrev weight : List Spot → ℕ
weight [] = 0
weight (s ∷ ss) = 2 + length s.element.content + weight ss

length_some : (octets : List ℕ) (n : ℕ) → IsLength octets n → 0 < length octets
length_some [] n h = absurd h
length_some (a ∷ rest) n h = omega arith

row_weighs : (octets : List ℕ) (es : List Element) (from : ℕ × ℕ) → IsRow octets es → weight (placed from es) ≤ length octets
row_weighs octets [] from row = omega arith
row_weighs octets (e ∷ es) from (front, rest, s, p, row) =
    omega (arith, row_weighs rest es (from.0, from.1 + (e.head + length e.content)) row, Begins-length octets e rest (front, s, p), s.head, IsTag-some s.tag e.tag s.is_tag, length_some s.len (length e.content) s.is_length)

elements_weigh : (content : Piece) (spots : List Spot) → AreFields content spots → weight spots ≤ length content.octets
elements_weigh content spots (es, row, is) = rw is (row_weighs content.octets es (content.block, content.place) row)

only_within : (tag : ℕ) (whole content : Piece) → IsOnly tag whole content → length content.octets ≤ length whole.octets
only_within tag whole content (s, are, same, is) = rw is (omega (arith, elements_weigh whole (s ∷ []) are))

by_tag : (b : Bool) (s : Spot) (later : Option Piece) (content : Piece) (n : ℕ) → cond b (Some (content_piece s)) later ≡ Some content → (later ≡ Some content → length content.octets ≤ n) → length content.octets ≤ 2 + length s.element.content + n
by_tag true s later content n h step = let is : content_piece s ≡ content = cc (h) in rw (sym is) (omega arith)
by_tag false s later content n h step = omega (arith, step h)

tagged_within : (tag : ℕ) (spots : List Spot) (content : Piece) → first_with tag spots ≡ Some content → length content.octets ≤ weight spots
tagged_within tag [] content h = absurd cc
tagged_within tag (s ∷ ss) content h = by_tag (eqb s.element.tag tag) s (first_with tag ss) content (weight ss) h (tagged_within tag ss content)

-- ---- how many contexts there can be

fields_weigh : (fields : List Spot) (d : Context) → AreContextFields fields d → 6 ≤ weight fields
fields_weigh [] d h = absurd h
fields_weigh (a ∷ []) d h = absurd h
fields_weigh (a ∷ b ∷ []) d h = absurd h
fields_weigh (a ∷ b ∷ c ∷ []) d h = omega arith
fields_weigh (a ∷ b ∷ c ∷ e ∷ more) d h = absurd h

definitions_weigh : (ss : List Spot) (ds : List Context) → AreDefinitions ss ds → 8 * length ds ≤ weight ss
definitions_weigh [] [] h = omega arith
definitions_weigh [] (d ∷ ds) h = absurd h
definitions_weigh (s ∷ ss) [] h = absurd h
definitions_weigh (s ∷ ss) (d ∷ ds) ((same, fields, are, is), h) = omega (arith, definitions_weigh ss ds h, fields_weigh fields d is, elements_weigh (content_piece s) fields are)

contexts_few : (content : Piece) (contexts : List Context) → IsContextList content contexts → 8 * length contexts ≤ length content.octets
contexts_few content contexts (spots, are, is) = omega (arith, elements_weigh content spots are, definitions_weigh spots contexts is)

parameters_within : (input parameters : Piece) → HasParameters input parameters → length parameters.octets ≤ length input.octets
parameters_within input parameters (content, only, (set, are, (mode, normal, is))) =
    omega (arith, only_within SET input content only, elements_weigh content set are, tagged_within NORMAL_MODE_PARAMETERS set parameters is)

-- ---- how many octets the results have

-- four octets more for a context that is still to come
abbrev more : ℕ → ℕ → ℕ
more place a = 4 * min 1 (a + 1 - place)

one_result : (place a b : ℕ) → length (result_octets (eqb place a || eqb place b)) + more (place + 1) a + more (place + 1) b ≤ 5 + more place a + more place b
one_result place a b = by_places (eqb place a) (eqb place b) refl refl
  where
    by_places : (x y : Bool) → eqb place a ≡ x → eqb place b ≡ y → length (result_octets (eqb place a || eqb place b)) + more (place + 1) a + more (place + 1) b ≤ 5 + more place a + more place b
    by_places true y e f = rw e (omega (arith, eqb-true place a e))
    by_places false true e f = rw (e, f) (omega (arith, eqb-true place b f))
    by_places false false e f = rw (e, f) (omega arith)

results_weigh : (place n a b : ℕ) → length (flat_map result_octets (flags_from place n a b)) ≤ 5 * n + more place a + more place b
results_weigh place zero a b = omega arith
results_weigh place (suc n) a b =
    omega (arith, one_result place a b, results_weigh (place + 1) n a b, length-append (result_octets (eqb place a || eqb place b)) (flat_map result_octets (flags_from (place + 1) n a b)))

-- ---- the answer

answer_fits : (list : List Bool) (context count : ℕ) (aare : List ℕ) → 8 * count ≤ 70000 → length (flat_map result_octets list) ≤ 5 * count + 8 → length aare ≤ 16384
    → (length (set_content (cpa_parameters list context aare)) < 2 ^ 32) × (length (accept_parameters (cpa_octets list context aare)) ≤ 65535)
unfolding cpa_parameters cpa_octets
answer_fits list context count aare few results short =
    let most : length (cpa_parameters list context aare) ≤ 45000 + 16384 = omega (
      arith,
      few,
      results,
      short,
      octets_few CONTEXT_RESULT_LIST (flat_map result_octets list) (omega arith),
      user_few context aare,
      length-append (octets_of CONTEXT_RESULT_LIST (flat_map result_octets list)) (user_octets context aare),
    ) in
    (omega (arith, most, set_few (cpa_parameters list context aare)), accept_short (cpa_octets list context aare) (omega (arith, most, ppdu_few (cpa_parameters list context aare))))

request_fits : (input : Piece) (cp : Request) (aare : List ℕ) → IsCp input cp → length input.octets ≤ 70000 → length aare ≤ 16384
    → (length (set_content (cpa_parameters cp.list cp.acse aare)) < 2 ^ 32) × (length (accept_parameters (cpa_octets cp.list cp.acse aare)) ≤ 65535)
request_fits input cp aare (parameters, has, (fields, are, (content, is, (contexts, list, (a, chosen_a, (m, chosen_m, (user, has_user, same))))))) few short =
    answer_fits cp.list cp.acse (length contexts) aare (omega (arith, few, parameters_within input parameters has, elements_weigh parameters fields are, tagged_within CONTEXT_DEFINITION_LIST fields content is, contexts_few content contexts list))
    (rw same (omega (arith, results_weigh 0 (length contexts) a.place m.place))) short

read_fits : (input : Piece) (r : Result Request SpFault) (cp : Asked) (aare : List ℕ) → MatchResult r (IsCp input) (IsCpRefused input) → (r >>= λ x. Ok (asked x)) ≡ Ok cp → length input.octets ≤ 70000 → length aare ≤ 16384
    → (length (set_content (cpa_parameters cp.list cp.acse aare)) < 2 ^ 32) × (length (accept_parameters (cpa_octets cp.list cp.acse aare)) ≤ 65535)
read_fits input (Ok x) cp aare tells e few short = let is : asked x ≡ cp = cc (e) in rw (sym is) (request_fits input x aare tells few short)
read_fits input (Err f) cp aare tells e few short = absurd cc

pub fits_anyone : (ppdu : List ℕ) (cp : Asked) (aare : List ℕ) → cp_from ppdu ≡ Ok cp → length ppdu ≤ 70000 → length aare ≤ 16384
    → (length (set_content (cpa_parameters cp.list cp.acse aare)) < 2 ^ 32) × (length (accept_parameters (cpa_octets cp.list cp.acse aare)) ≤ 65535)
unfolding cp_from
fits_anyone ppdu cp aare e few short = read_fits (anywhere ppdu) (cp_at (anywhere ppdu)) cp aare (cp_exact (anywhere ppdu)).tells e few short

-- ---- user data are no longer than their SPDU

pub first_is : (a b : Option Piece) (v : Piece) → first_of_two a b ≡ Some v → (a ≡ Some v) ⊎ (b ≡ Some v)
first_is (Some x) b v h = inl h
first_is None b v h = inr h

value_is : (b : Bool) (x v : Piece) → cond b (Some x) None ≡ Some v → length v.octets ≡ length x.octets
value_is true x v h = let is : x ≡ v = cc (h) in rw (sym is) refl
value_is false x v h = absurd cc

value_within : (input : Piece) (ps : List Parameter) (v : Piece) → AreParameters input ps → last_of USER_DATA ps ≡ Some v → length v.octets ≤ length input.octets
value_within input [] v are h = absurd cc
value_within input (p ∷ ps) v (rest, begun, are) h =
    let whole : length input.octets ≡ 1 + (length begun.len + (length p.value.octets + length rest.octets)) = omega (arith, ap (λ (x : List ℕ). length x) begun.whole, length-append begun.len (p.value.octets ++ rest.octets), length-append p.value.octets rest.octets) in
    elim (first_is (last_of USER_DATA ps) (cond (eqb p.code USER_DATA) (Some p.value) None) v h) [
      | inl later ↦ omega (arith, whole, value_within rest ps v are later)
      | inr here ↦ omega (arith, whole, value_is (eqb p.code USER_DATA) p.value v here)
    ]

data_within : (code : ℕ) (input user : Piece) → HasData code input user → length user.octets ≤ length input.octets
data_within code input user (given, (parameters, unit, (ps, are, cut, last)), is) =
    omega (arith, value_within parameters ps user are (sym last ∙ is), ap (λ (x : List ℕ). length x) unit.whole, length-append unit.len parameters.octets)

told_within : (input : Piece) (r : Result Seen SpFault) (user : List ℕ) → MatchResult r (IsSpdu input) (IsSpduRefused input) → (r >>= λ x. Ok (told x)) ≡ Ok (connects user) → length user ≤ length input.octets
told_within input (Ok (connect p)) user tells e = let is : p.octets ≡ user = cc (e) in rw (sym is) (data_within CONNECT input p tells)
told_within input (Ok (transfer p)) user tells e = absurd cc
told_within input (Ok (finish p)) user tells e = absurd cc
told_within input (Ok abort) user tells e = absurd cc
told_within input (Err f) user tells e = absurd cc

pub connect_within : (input user : List ℕ) → spdu_from input ≡ Ok (connects user) → length user ≤ length input
unfolding spdu_from
connect_within input user e = told_within (anywhere input) (spdu_at (anywhere input)) user (spdu_exact (anywhere input)).tells e
