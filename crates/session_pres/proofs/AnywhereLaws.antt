-- What is read of octets doesn't depend on where they lie.
use Rattle.std.proofs.Common.{◌≡◌, ℕ, zero, suc, ◌+◌, cond, eqb, List, [], ◌∷◌, length, take, drop, Option, Some, None, Result, Ok, Err, refl, sym, ap, ◌∙◌}
use Rattle.std.specs.Prelude.{bytes_eq, is_some}
use Rattle.std.specs.Option.{option_map}
use Rattle.ber_grammar.specs.Element.{Element}
use Rattle.ber_grammar.specs.Place.{Piece, Spot, content_piece}
use Rattle.ber_grammar.specs.Reader.{◌>>=◌, Gives, and_then}
use Rattle.ber_grammar.proofs.AlikeLaws.{Maybe, Both, Parts, Spots, Rows, then_maybe, then_same, is_required, then_both, next, if_maybe, both_if, if_both, plain, only_with-alike, only_alike, first_with-alike, field_with-alike, fields_alike}
use Rattle.session_pres.specs.declared.codes.TheConstants.{FINISH, DISCONNECT, CONNECT, ACCEPT, ABORT, USER_DATA, MODE_SELECTOR, MODE_VALUE, NORMAL_MODE_PARAMETERS, CONTEXT_DEFINITION_LIST, CONTEXT_RESULT_LIST, RESULT, TRANSFER_SYNTAX, FULLY_ENCODED_DATA, SINGLE_ASN1_TYPE, INTEGER, OBJECT_IDENTIFIER, SEQUENCE, SET}
use Rattle.session_pres.specs.declared.fault.SpFault.{SpFault}
use Rattle.session_pres.specs.declared.fault.SpFault.TheVariants as faults
use Rattle.ber_grammar.specs.Steps.{required}
use Rattle.ber_grammar.specs.Fields.{fields_in, only_in, only_with, first_with, field_with}
use Rattle.session_pres.specs.Places.{front, behind}
use Rattle.ber_grammar.specs.Reader.{first_of_two}
use Rattle.session_pres.specs.Parameters.{Parameter, last_of}
use Rattle.session_pres.specs.ParameterReading.{length_at, head_at, parameter_at, bounded_parameters, parameters_at, is_cut, all_cut, user_at}
use Rattle.session_pres.specs.Units.{Seen, begins, connect, transfer, finish, abort}
use Rattle.session_pres.specs.UnitReading.{counted_at, unit_at, user_of, data_of, is_transfer, transfer_at, spdu_at}
use Rattle.session_pres.specs.UserData.{context_at, pair_at, pdv_at, pdv_list_at, user_data_at}
use Rattle.session_pres.specs.ContextList.{Context, ber, acse, mms}
use Rattle.session_pres.specs.ContextReading.{has_ber, context_fields_at, definition_at, definitions_at, context_list_at, chosen_at}
use Rattle.session_pres.specs.Presentation.{Request, request, first_in, second_in}
use Rattle.session_pres.specs.PresentationReading.{if_octets, normal_at, parameters_in, if_context, user_in, cp_at, accepted_at, cpa_at, ac_at}
use Rattle.ber_grammar.specs.Place.{anywhere}
use Rattle.session_pres.specs.Plain.{octets, Told, told, asked, pdv_octets, spdu_from, cp_from, ac_from, dn_from, pdv_from}

-- ---- alike: the same but for places

abbrev Values : ℕ × Piece → ℕ × Piece → Type 0
Values x y = (x.0 ≡ y.0) × Parts x.1 y.1

abbrev Parameters : Parameter → Parameter → Type 0
Parameters p q = (p.code ≡ q.code) × Parts p.value q.value

abbrev Lists : List Parameter → List Parameter → Type 0
Lists [] [] = Unit {0}
Lists [] (q ∷ qs) = ⊥
Lists (p ∷ ps) [] = ⊥
Lists (p ∷ ps) (q ∷ qs) = Parameters p q × Lists ps qs

abbrev Begun : Parameter × Piece → Parameter × Piece → Type 0
Begun x y = Parameters x.0 y.0 × Parts x.1 y.1

-- ---- user data

pair_alike : (a b c d : Spot) → Spots a c → Spots b d → Maybe Values (pair_at a b) (pair_at c d)
unfolding pair_at
pair_alike a b c d e h =
    let value = λ (n : ℕ). if_maybe Values (eqb d.element.tag SINGLE_ASN1_TYPE) (and_then (only_in (content_piece b)) (λ s. Some (n, content_piece b))) (and_then (only_in (content_piece d)) (λ s. Some (n, content_piece d))) None None
    (then_maybe Spots Values (only_in (content_piece b)) (only_in (content_piece d)) (λ s. Some (n, content_piece b)) (λ s. Some (n, content_piece d)) (only_alike (content_piece b) (content_piece d) (ap (λ (x : Element). x.content) h)) (λ s t k. (refl, ap (λ (x : Element). x.content) h))) tt in
    rw (e, ap (λ (x : Element). x.tag) h) (if_maybe Values (eqb c.element.tag INTEGER) (and_then (context_at c.element.content) (λ n. cond (eqb d.element.tag SINGLE_ASN1_TYPE) (and_then (only_in (content_piece b)) (λ s. Some (n, content_piece b))) None))
    (and_then (context_at c.element.content) (λ n. cond (eqb d.element.tag SINGLE_ASN1_TYPE) (and_then (only_in (content_piece d)) (λ s. Some (n, content_piece d))) None)) None None
    (numbered (context_at c.element.content) (λ n. cond (eqb d.element.tag SINGLE_ASN1_TYPE) (and_then (only_in (content_piece b)) (λ s. Some (n, content_piece b))) None) (λ n. cond (eqb d.element.tag SINGLE_ASN1_TYPE) (and_then (only_in (content_piece d)) (λ s. Some (n, content_piece d))) None) value) tt)
  where
    numbered : (o : Option ℕ) (f g : ℕ → Option (ℕ × Piece)) → ((n : ℕ) → Maybe Values (f n) (g n)) → Maybe Values (and_then o f) (and_then o g)
    numbered None f g h = tt
    numbered (Some n) f g h = h n

third_alike : (a b c d e f : Spot) → Spots a d → Spots b e → Spots c f → Maybe Values (cond (eqb a.element.tag OBJECT_IDENTIFIER) (pair_at b c) None) (cond (eqb d.element.tag OBJECT_IDENTIFIER) (pair_at e f) None)
third_alike a b c d e f p q r = rw p (if_maybe Values (eqb d.element.tag OBJECT_IDENTIFIER) (pair_at b c) (pair_at e f) None None (pair_alike b c e f q r) tt)

pdv_alike : (ss ts : List Spot) → Rows ss ts → Maybe Values (pdv_at ss) (pdv_at ts)
pdv_alike [] [] h = tt
pdv_alike [] (t ∷ ts) h = absurd h
pdv_alike (s ∷ ss) [] h = absurd h
pdv_alike (a ∷ []) (d ∷ []) h = tt
pdv_alike (a ∷ []) (d ∷ e ∷ ts) h = absurd h.1
pdv_alike (a ∷ b ∷ ss) (d ∷ []) h = absurd h.1
pdv_alike (a ∷ b ∷ []) (d ∷ e ∷ []) (p, (q, h)) = pair_alike a b d e p q
pdv_alike (a ∷ b ∷ []) (d ∷ e ∷ f ∷ ts) (p, (q, h)) = absurd h
pdv_alike (a ∷ b ∷ c ∷ ss) (d ∷ e ∷ []) (p, (q, h)) = absurd h
pdv_alike (a ∷ b ∷ c ∷ []) (d ∷ e ∷ f ∷ []) (p, (q, (r, h))) = third_alike a b c d e f p q r
pdv_alike (a ∷ b ∷ c ∷ []) (d ∷ e ∷ f ∷ y ∷ ts) (p, (q, (r, h))) = absurd h
pdv_alike (a ∷ b ∷ c ∷ x ∷ ss) (d ∷ e ∷ f ∷ []) (p, (q, (r, h))) = absurd h
pdv_alike (a ∷ b ∷ c ∷ x ∷ ss) (d ∷ e ∷ f ∷ y ∷ ts) h = tt

pdv_list_alike : (p q : Piece) → Parts p q → Maybe Values (pdv_list_at p) (pdv_list_at q)
unfolding pdv_list_at
pdv_list_alike p q e =
    then_maybe Parts Values (only_with SEQUENCE p) (only_with SEQUENCE q) (λ value. and_then (fields_in value) pdv_at) (λ value. and_then (fields_in value) pdv_at) (only_with-alike SEQUENCE p q e)
    (λ x y h. then_maybe Rows Values (fields_in x) (fields_in y) pdv_at pdv_at (fields_alike x y h) pdv_alike)

user_data_alike : (p q : Piece) → Parts p q → Maybe Values (user_data_at p) (user_data_at q)
unfolding user_data_at
user_data_alike p q e = then_maybe Parts Values (only_with FULLY_ENCODED_DATA p) (only_with FULLY_ENCODED_DATA q) pdv_list_at pdv_list_at (only_with-alike FULLY_ENCODED_DATA p q e) pdv_list_alike

-- ---- contexts

ber_same : (ss ts : List Spot) → Rows ss ts → has_ber ss ≡ has_ber ts
ber_same [] [] h = refl
ber_same [] (t ∷ ts) h = absurd h
ber_same (s ∷ ss) [] h = absurd h
ber_same (s ∷ ss) (t ∷ ts) (e, h) = rw (e, ber_same ss ts h) refl

fields_same : (ss ts : List Spot) → Rows ss ts → context_fields_at ss ≡ context_fields_at ts
unfolding context_fields_at
fields_same [] [] h = refl
fields_same [] (t ∷ ts) h = absurd h
fields_same (s ∷ ss) [] h = absurd h
fields_same (a ∷ []) (d ∷ []) h = refl
fields_same (a ∷ []) (d ∷ e ∷ ts) h = absurd h.1
fields_same (a ∷ b ∷ ss) (d ∷ []) h = absurd h.1
fields_same (a ∷ b ∷ []) (d ∷ e ∷ []) h = refl
fields_same (a ∷ b ∷ []) (d ∷ e ∷ f ∷ ts) (p, (q, h)) = absurd h
fields_same (a ∷ b ∷ c ∷ ss) (d ∷ e ∷ []) (p, (q, h)) = absurd h
fields_same (a ∷ b ∷ c ∷ []) (d ∷ e ∷ f ∷ []) (p, (q, (r, h))) =
    let syntaxes = λ (n : ℕ). then_same Rows (fields_in (content_piece c)) (fields_in (content_piece f)) (λ ss. let x : Context = record { number = n; syntax = e.element.content; has_ber = has_ber ss } in Some x)
    (λ ss. let x : Context = record { number = n; syntax = e.element.content; has_ber = has_ber ss } in Some x) (fields_alike (content_piece c) (content_piece f) (ap (λ (x : Element). x.content) r)) (λ ss ts k. rw (ber_same ss ts k) refl) in
    rw (p, q, ap (λ (x : Element). x.tag) r) (ap (λ (o : Option Context). cond (eqb d.element.tag INTEGER) (cond (eqb e.element.tag OBJECT_IDENTIFIER) (cond (eqb f.element.tag SEQUENCE) o None) None) None) (numbered (context_at d.element.content) _ _ syntaxes))
  where
    numbered : (o : Option ℕ) (f g : ℕ → Option Context) → ((n : ℕ) → f n ≡ g n) → and_then o f ≡ and_then o g
    numbered None f g h = refl
    numbered (Some n) f g h = h n
fields_same (a ∷ b ∷ c ∷ []) (d ∷ e ∷ f ∷ y ∷ ts) (p, (q, (r, h))) = absurd h
fields_same (a ∷ b ∷ c ∷ x ∷ ss) (d ∷ e ∷ f ∷ []) (p, (q, (r, h))) = absurd h
fields_same (a ∷ b ∷ c ∷ x ∷ ss) (d ∷ e ∷ f ∷ y ∷ ts) h = refl

definition_same : (s t : Spot) → Spots s t → definition_at s ≡ definition_at t
unfolding definition_at
definition_same s t e =
    let inside = then_same Rows (fields_in (content_piece s)) (fields_in (content_piece t)) context_fields_at context_fields_at (fields_alike (content_piece s) (content_piece t) (ap (λ (x : Element). x.content) e)) fields_same in
    rw (ap (λ (x : Element). x.tag) e, inside) refl

definitions_same : (ss ts : List Spot) → Rows ss ts → definitions_at ss ≡ definitions_at ts
definitions_same [] [] h = refl
definitions_same [] (t ∷ ts) h = absurd h
definitions_same (s ∷ ss) [] h = absurd h
definitions_same (s ∷ ss) (t ∷ ts) (e, h) = rw (definition_same s t e, definitions_same ss ts h) refl

contexts_same : (p q : Piece) → Parts p q → context_list_at p ≡ context_list_at q
unfolding context_list_at
contexts_same p q e = then_same Rows (fields_in p) (fields_in q) definitions_at definitions_at (fields_alike p q e) definitions_same

-- ---- parameters

parameter_alike : (p q : Piece) → Parts p q → Maybe Begun (parameter_at p) (parameter_at q)
unfolding parameter_at
parameter_alike p q e = rw e (found (head_at q.octets))
  where
    found : (o : Option (ℕ × ℕ × ℕ)) → Maybe Begun
        (option_map (λ h. let x : Parameter = record { code = h.0; value = record { octets = take h.2 (drop h.1 q.octets); block = p.block; place = p.place + h.1 } } in (x, let y : Piece = record { octets = drop (h.1 + h.2) q.octets; block = p.block; place = p.place + (h.1 + h.2) } in y)) o)
        (option_map (λ h. let x : Parameter = record { code = h.0; value = front h.2 (behind h.1 q) } in (x, behind (h.1 + h.2) q)) o)
    found None = tt
    found (Some h) = ((refl, refl), refl)

bounded_alike : (n : ℕ) (p q : Piece) → Parts p q → Maybe Lists (bounded_parameters n p) (bounded_parameters n q)
unfolding bounded_parameters
bounded_alike zero p q e = tt
bounded_alike (suc n) p q e =
    rw (ap length e) (if_maybe Lists (eqb (length q.octets) 0) (Some []) (Some []) (and_then (parameter_at p) (λ x. and_then (bounded_parameters n x.1) (λ ps. Some (x.0 ∷ ps)))) (and_then (parameter_at q) (λ x. and_then (bounded_parameters n x.1) (λ ps. Some (x.0 ∷ ps)))) tt
    (then_maybe Begun Lists (parameter_at p) (parameter_at q) (λ x. and_then (bounded_parameters n x.1) (λ ps. Some (x.0 ∷ ps))) (λ x. and_then (bounded_parameters n x.1) (λ ps. Some (x.0 ∷ ps))) (parameter_alike p q e)
    (λ x y h. then_maybe Lists Lists (bounded_parameters n x.1) (bounded_parameters n y.1) (λ ps. Some (x.0 ∷ ps)) (λ ps. Some (y.0 ∷ ps)) (bounded_alike n x.1 y.1 h.1) (λ ps qs k. (h.0, k)))))

parameters_alike : (p q : Piece) → Parts p q → Maybe Lists (parameters_at p) (parameters_at q)
unfolding parameters_at
parameters_alike p q e = rw (ap length e) (bounded_alike (suc (length q.octets)) p q e)

some_same : {A : Type 0} (P : A → A → Type 0) (o u : Option A) → Maybe P o u → is_some o ≡ is_some u
some_same P None None h = refl
some_same P None (Some y) h = absurd h
some_same P (Some x) None h = absurd h
some_same P (Some x) (Some y) h = refl

cut_same : (p q : Parameter) → Parameters p q → is_cut p ≡ is_cut q
cut_same p q (e, h) = rw (e, some_same Lists (parameters_at p.value) (parameters_at q.value) (parameters_alike p.value q.value h)) refl

all_same : (ps qs : List Parameter) → Lists ps qs → all_cut ps ≡ all_cut qs
all_same [] [] h = refl
all_same [] (q ∷ qs) h = absurd h
all_same (p ∷ ps) [] h = absurd h
all_same (p ∷ ps) (q ∷ qs) h = rw (cut_same p q h.0, all_same ps qs h.1) refl

first_alike : (a b c d : Option Piece) → Maybe Parts a c → Maybe Parts b d → Maybe Parts (first_of_two a b) (first_of_two c d)
first_alike None b None d h k = k
first_alike None b (Some y) d h k = absurd h
first_alike (Some x) b None d h k = absurd h
first_alike (Some x) b (Some y) d h k = h

last_alike : (code : ℕ) (ps qs : List Parameter) → Lists ps qs → Maybe Parts (last_of code ps) (last_of code qs)
last_alike code [] [] h = tt
last_alike code [] (q ∷ qs) h = absurd h
last_alike code (p ∷ ps) [] h = absurd h
last_alike code (p ∷ ps) (q ∷ qs) h =
    first_alike (last_of code ps) (cond (eqb p.code code) (Some p.value) None) (last_of code qs) (cond (eqb q.code code) (Some q.value) None) (last_alike code ps qs h.1)
    (rw (h.0.0) (if_maybe Parts (eqb q.code code) (Some p.value) (Some q.value) None None h.0.1 tt))

user_alike : (p q : Piece) → Parts p q → Maybe (Maybe Parts) (user_at p) (user_at q)
unfolding user_at
user_alike p q e =
    then_maybe Lists (Maybe Parts) (parameters_at p) (parameters_at q) (λ ps. cond (all_cut ps) (Some (last_of USER_DATA ps)) None) (λ ps. cond (all_cut ps) (Some (last_of USER_DATA ps)) None) (parameters_alike p q e)
    (λ ps qs h. rw (all_same ps qs h) (if_maybe (Maybe Parts) (all_cut qs) (Some (last_of USER_DATA ps)) (Some (last_of USER_DATA qs)) None None (last_alike USER_DATA ps qs h) tt))

-- ---- SPDUs

counted_alike : (p q : Piece) → Parts p q → Maybe Parts (counted_at p) (counted_at q)
unfolding counted_at
counted_alike p q e = rw e (found (length_at q.octets))
  where
    found : (o : Option (ℕ × ℕ)) → Maybe Parts (and_then o (λ len. cond (eqb (length q.octets) (len.1 + len.0)) (Some (let y : Piece = record { octets = drop len.1 q.octets; block = p.block; place = p.place + len.1 } in y)) None)) (and_then o (λ len. cond (eqb (length q.octets) (len.1 + len.0)) (Some (behind len.1 q)) None))
    found None = tt
    found (Some len) = if_maybe Parts (eqb (length q.octets) (len.1 + len.0)) (Some (let y : Piece = record { octets = drop len.1 q.octets; block = p.block; place = p.place + len.1 } in y)) (Some (behind len.1 q)) None None refl tt

behind_alike : (n : ℕ) (p q : Piece) → Parts p q → Parts (behind n p) (behind n q)
behind_alike n p q e = ap (λ (x : List ℕ). drop n x) e

unit_alike : (code : ℕ) (p q : Piece) → Parts p q → Maybe Parts (unit_at code p) (unit_at code q)
unfolding unit_at
unit_alike code p q e = rw (ap (λ (x : List ℕ). begins code x) e) (if_maybe Parts (begins code q.octets) (counted_at (behind 1 p)) (counted_at (behind 1 q)) None None (counted_alike (behind 1 p) (behind 1 q) (behind_alike 1 p q e)) tt)

user_of_alike : (code : ℕ) (p q : Piece) → Parts p q → Both (Maybe Parts) (user_of code p) (user_of code q)
unfolding user_of
user_of_alike code p q e =
    next Parts (Maybe Parts) faults.Spdu (unit_at code p) (unit_at code q) (λ x. required faults.Parameter (user_at x)) (λ x. required faults.Parameter (user_at x)) (unit_alike code p q e)
    (λ x y h. is_required (Maybe Parts) faults.Parameter (user_at x) (user_at y) (user_alike x y h))

data_of_alike : (code : ℕ) (p q : Piece) → Parts p q → Both Parts (data_of code p) (data_of code q)
unfolding data_of
data_of_alike code p q e =
    then_both (Maybe Parts) Parts (user_of code p) (user_of code q) (λ x. required faults.Parameter x) (λ x. required faults.Parameter x) (user_of_alike code p q e) (λ x y h. is_required Parts faults.Parameter x y h)

abbrev Units : Seen → Seen → Type 0
Units s t = told s ≡ told t

transfer_alike : (p q : Piece) → Parts p q → Maybe Units (transfer_at p) (transfer_at q)
unfolding transfer_at
transfer_alike p q e = rw (ap is_transfer e) (if_maybe Units (is_transfer q.octets) (Some (transfer (behind 4 p))) (Some (transfer (behind 4 q))) None None (ap transfers_with (behind_alike 4 p q e)) tt)
  where
    transfers_with : List ℕ → Told
    transfers_with x = told (transfer (anywhere x))

octets_same : (o u : Option Piece) → Maybe Parts o u → option_map octets o ≡ option_map octets u
octets_same None None h = refl
octets_same None (Some y) h = absurd h
octets_same (Some x) None h = absurd h
octets_same (Some x) (Some y) h = rw h refl

spdu_alike : (p q : Piece) → Parts p q → Both Units (spdu_at p) (spdu_at q)
unfolding spdu_at
spdu_alike p q e =
    let one = then_both Parts Units (data_of CONNECT p) (data_of CONNECT q) (λ x. Ok (connect x)) (λ x. Ok (connect x)) (data_of_alike CONNECT p q e) (λ x y h. rw h refl) in
    let two = then_both (Maybe Parts) Units (user_of FINISH p) (user_of FINISH q) (λ x. Ok (finish x)) (λ x. Ok (finish x)) (user_of_alike FINISH p q e) (λ x y h. rw (octets_same x y h) refl) in
    let three = then_both (Maybe Parts) Units (user_of ABORT p) (user_of ABORT q) (λ x. Ok abort) (λ x. Ok abort) (user_of_alike ABORT p q e) (λ x y h. refl) in
    let four = is_required Units faults.Spdu (transfer_at p) (transfer_at q) (transfer_alike p q e) in
    rw (ap (λ (x : List ℕ). begins CONNECT x) e, ap (λ (x : List ℕ). begins FINISH x) e, ap (λ (x : List ℕ). begins ABORT x) e)
    (if_both Units (begins CONNECT q.octets) _ _ _ _ one (if_both Units (begins FINISH q.octets) _ _ _ _ two (if_both Units (begins ABORT q.octets) _ _ _ _ three four)))

-- ---- PPDUs

octets_if : (wanted : List ℕ) (o u : Option Piece) → Maybe Parts o u → Maybe Parts (if_octets wanted o) (if_octets wanted u)
octets_if wanted None None h = tt
octets_if wanted None (Some y) h = absurd h
octets_if wanted (Some x) None h = absurd h
octets_if wanted (Some x) (Some y) h = both_if Parts (bytes_eq x.octets wanted) (bytes_eq y.octets wanted) (Some x) (Some y) None None (ap (λ (o : List ℕ). bytes_eq o wanted) h) h tt

normal_alike : (ss ts : List Spot) → Rows ss ts → Maybe Parts (normal_at ss) (normal_at ts)
unfolding normal_at
normal_alike ss ts h =
    octets_if (1 ∷ []) (and_then (first_with MODE_SELECTOR ss) (field_with MODE_VALUE)) (and_then (first_with MODE_SELECTOR ts) (field_with MODE_VALUE))
    (then_maybe Parts Parts (first_with MODE_SELECTOR ss) (first_with MODE_SELECTOR ts) (field_with MODE_VALUE) (field_with MODE_VALUE) (first_with-alike MODE_SELECTOR ss ts h) (field_with-alike MODE_VALUE))

parameters_in_alike : (p q : Piece) → Parts p q → Both Parts (parameters_in p) (parameters_in q)
unfolding parameters_in
parameters_in_alike p q e =
    next Parts Parts faults.Parameter (only_with SET p) (only_with SET q) _ _ (only_with-alike SET p q e) (λ x y h.
    next Rows Parts faults.Parameter (fields_in x) (fields_in y) _ _ (fields_alike x y h) (λ ss ts k.
    next Parts Parts faults.Mode (normal_at ss) (normal_at ts) _ _ (normal_alike ss ts k) (λ m n j.
    is_required Parts faults.NoAcseContext (first_with NORMAL_MODE_PARAMETERS ss) (first_with NORMAL_MODE_PARAMETERS ts) (first_with-alike NORMAL_MODE_PARAMETERS ss ts k))))

context_if : (n : ℕ) (o u : Option (ℕ × Piece)) → Maybe Values o u → Maybe Parts (if_context n o) (if_context n u)
context_if n None None h = tt
context_if n None (Some y) h = absurd h
context_if n (Some x) None h = absurd h
context_if n (Some x) (Some y) h = rw (h.0) (if_maybe Parts (eqb y.0 n) (Some x.1) (Some y.1) None None h.1 tt)

user_in_alike : (n : ℕ) (ss ts : List Spot) → Rows ss ts → Maybe Parts (user_in ss n) (user_in ts n)
unfolding user_in
user_in_alike n ss ts h =
    context_if n (and_then (first_with FULLY_ENCODED_DATA ss) pdv_list_at) (and_then (first_with FULLY_ENCODED_DATA ts) pdv_list_at) (then_maybe Parts Values (first_with FULLY_ENCODED_DATA ss) (first_with FULLY_ENCODED_DATA ts) pdv_list_at pdv_list_at (first_with-alike FULLY_ENCODED_DATA ss ts h) pdv_list_alike)

abbrev Requests : Request → Request → Type 0
Requests x y = asked x ≡ asked y

abbrev Same : {A : Type 0} → A → A → Type 0
Same x y = x ≡ y

same_maybe : {A : Type 0} (o u : Option A) → o ≡ u → Maybe Same o u
same_maybe None u e = rw (sym e) tt
same_maybe (Some x) u e = rw (sym e) refl

cp_alike : (p q : Piece) → Parts p q → Both Requests (cp_at p) (cp_at q)
unfolding cp_at
cp_alike p q e =
    then_both Parts Requests (parameters_in p) (parameters_in q) _ _ (parameters_in_alike p q e) (λ x y h.
    next Rows Requests faults.Parameter (fields_in x) (fields_in y) _ _ (fields_alike x y h) (λ ss ts k.
    next Parts Requests faults.NoAcseContext (first_with CONTEXT_DEFINITION_LIST ss) (first_with CONTEXT_DEFINITION_LIST ts) _ _ (first_with-alike CONTEXT_DEFINITION_LIST ss ts k) (λ v w j.
    rw (contexts_same v w j) (others ss ts k (context_list_at w)))))
  where
    chosen : (ss ts : List Spot) → Rows ss ts → (contexts : List Context) → Both Requests
        (required faults.NoAcseContext (chosen_at acse contexts) >>= λ a. required faults.NoMmsContext (chosen_at mms contexts) >>= λ m. required faults.Pdv (user_in ss a.number) >>= λ user. Ok (request contexts a m user))
        (required faults.NoAcseContext (chosen_at acse contexts) >>= λ a. required faults.NoMmsContext (chosen_at mms contexts) >>= λ m. required faults.Pdv (user_in ts a.number) >>= λ user. Ok (request contexts a m user))
    chosen ss ts k contexts =
        next Same Requests faults.NoAcseContext (chosen_at acse contexts) (chosen_at acse contexts) _ _ (same_maybe _ _ refl) (λ a b i.
        rw i (next Same Requests faults.NoMmsContext (chosen_at mms contexts) (chosen_at mms contexts) _ _ (same_maybe _ _ refl) (λ m n l.
        rw l (next Parts Requests faults.Pdv (user_in ss b.number) (user_in ts b.number) _ _ (user_in_alike b.number ss ts k) (λ u v h. rw h refl)))))

    others : (ss ts : List Spot) → Rows ss ts → (o : Option (List Context)) → Both Requests
        (required faults.Parameter o >>= λ contexts. required faults.NoAcseContext (chosen_at acse contexts) >>= λ a. required faults.NoMmsContext (chosen_at mms contexts) >>= λ m. required faults.Pdv (user_in ss a.number) >>= λ user. Ok (request contexts a m user))
        (required faults.Parameter o >>= λ contexts. required faults.NoAcseContext (chosen_at acse contexts) >>= λ a. required faults.NoMmsContext (chosen_at mms contexts) >>= λ m. required faults.Pdv (user_in ts a.number) >>= λ user. Ok (request contexts a m user))
    others ss ts k None = refl
    others ss ts k (Some contexts) = chosen ss ts k contexts

accepted_alike : (o u : Option Spot) → Maybe Spots o u → Maybe Spots (accepted_at o) (accepted_at u)
unfolding accepted_at
accepted_alike None None h = tt
accepted_alike None (Some t) h = absurd h
accepted_alike (Some s) None h = absurd h
accepted_alike (Some s) (Some t) h = both_if Spots (eqb s.element.tag SEQUENCE) (eqb t.element.tag SEQUENCE) _ _ None None (ap (λ (x : Element). eqb x.tag SEQUENCE) h) (
    then_maybe Rows Spots (fields_in (content_piece s)) (fields_in (content_piece t)) _ _ (fields_alike (content_piece s) (content_piece t) (ap (λ (x : Element). x.content) h)) (λ ss ts k.
    then_maybe Parts Spots (if_octets (0 ∷ []) (first_with RESULT ss)) (if_octets (0 ∷ []) (first_with RESULT ts)) _ _ (octets_if (0 ∷ []) (first_with RESULT ss) (first_with RESULT ts) (first_with-alike RESULT ss ts k)) (λ x y i.
    then_maybe Parts Spots (if_octets ber (first_with TRANSFER_SYNTAX ss)) (if_octets ber (first_with TRANSFER_SYNTAX ts)) _ _ (octets_if ber (first_with TRANSFER_SYNTAX ss) (first_with TRANSFER_SYNTAX ts) (first_with-alike TRANSFER_SYNTAX ss ts k)) (λ v w j. h)))) tt

first_spot : (ss ts : List Spot) → Rows ss ts → Maybe Spots (first_in ss) (first_in ts)
first_spot [] [] h = tt
first_spot [] (t ∷ ts) h = absurd h
first_spot (s ∷ ss) [] h = absurd h
first_spot (s ∷ ss) (t ∷ ts) h = h.0

second_spot : (ss ts : List Spot) → Rows ss ts → Maybe Spots (second_in ss) (second_in ts)
second_spot [] [] h = tt
second_spot [] (t ∷ ts) h = absurd h
second_spot (s ∷ ss) [] h = absurd h
second_spot (s ∷ []) (t ∷ []) h = tt
second_spot (s ∷ []) (t ∷ u ∷ ts) h = absurd h.1
second_spot (s ∷ r ∷ ss) (t ∷ []) h = absurd h.1
second_spot (s ∷ r ∷ ss) (t ∷ u ∷ ts) (e, (d, h)) = d

cpa_alike : (p q : Piece) → Parts p q → Both Parts (cpa_at p) (cpa_at q)
unfolding cpa_at
cpa_alike p q e =
    then_both Parts Parts (parameters_in p) (parameters_in q) _ _ (parameters_in_alike p q e) (λ x y h.
    next Rows Parts faults.Parameter (fields_in x) (fields_in y) _ _ (fields_alike x y h) (λ ss ts k.
    next Parts Parts faults.NoAcseContext (first_with CONTEXT_RESULT_LIST ss) (first_with CONTEXT_RESULT_LIST ts) _ _ (first_with-alike CONTEXT_RESULT_LIST ss ts k) (λ v w j.
    next Rows Parts faults.Parameter (fields_in v) (fields_in w) _ _ (fields_alike v w j) (λ rs us l.
    next Spots Parts faults.NoAcseContext (accepted_at (first_in rs)) (accepted_at (first_in us)) _ _ (accepted_alike (first_in rs) (first_in us) (first_spot rs us l)) (λ a b i.
    next Spots Parts faults.NoMmsContext (accepted_at (second_in rs)) (accepted_at (second_in us)) _ _ (accepted_alike (second_in rs) (second_in us) (second_spot rs us l)) (λ c d m.
    is_required Parts faults.Pdv (user_in ss 1) (user_in ts 1) (user_in_alike 1 ss ts k)))))))

ac_alike : (p q : Piece) → Parts p q → Both Parts (ac_at p) (ac_at q)
unfolding ac_at
ac_alike p q e = then_both Parts Parts (data_of ACCEPT p) (data_of ACCEPT q) cpa_at cpa_at (data_of_alike ACCEPT p q e) cpa_alike

-- ---- the octets alone

pub spdu_anywhere : (p : Piece) → (spdu_at p >>= λ spdu. Ok (told spdu)) ≡ spdu_from p.octets
unfolding spdu_from
spdu_anywhere p = plain Units told (spdu_at p) (spdu_at (anywhere p.octets)) (λ x y h. h) (spdu_alike p (anywhere p.octets) refl)

pub cp_anywhere : (p : Piece) → (cp_at p >>= λ cp. Ok (asked cp)) ≡ cp_from p.octets
unfolding cp_from
cp_anywhere p = plain Requests asked (cp_at p) (cp_at (anywhere p.octets)) (λ x y h. h) (cp_alike p (anywhere p.octets) refl)

pub ac_anywhere : (p : Piece) → (ac_at p >>= λ apdu. Ok apdu.octets) ≡ ac_from p.octets
unfolding ac_from
ac_anywhere p = plain Parts octets (ac_at p) (ac_at (anywhere p.octets)) (λ x y h. h) (ac_alike p (anywhere p.octets) refl)

pub dn_anywhere : (p : Piece) → (user_of DISCONNECT p >>= λ user. Ok (option_map octets user)) ≡ dn_from p.octets
unfolding dn_from
dn_anywhere p = plain (Maybe Parts) (option_map octets) (user_of DISCONNECT p) (user_of DISCONNECT (anywhere p.octets)) octets_same (user_of_alike DISCONNECT p (anywhere p.octets) refl)

pub pdv_anywhere : (p : Piece) → (required faults.Pdv (user_data_at p) >>= λ pdv. Ok (pdv_octets pdv)) ≡ pdv_from p.octets
unfolding pdv_from
pdv_anywhere p =
    plain Values pdv_octets (required faults.Pdv (user_data_at p)) (required faults.Pdv (user_data_at (anywhere p.octets))) (λ x y h. rw (h.0, h.1) refl)
    (is_required Values faults.Pdv (user_data_at p) (user_data_at (anywhere p.octets)) (user_data_alike p (anywhere p.octets) refl))

-- what a function gave, as octets alone
pub gives_plain : {X Y Z : Type 0} (view : X → Y) (bare : Y → Z) (r : Result X SpFault) (read : Result Y SpFault) (again : Result Z SpFault) → (read >>= λ y. Ok (bare y)) ≡ again → Gives view r read → Gives (λ x. bare (view x)) r again
gives_plain {Y = Y} view bare (Ok x) read again e g = sym e ∙ ap (λ (z : Result Y SpFault). z >>= λ y. Ok (bare y)) g
gives_plain {Y = Y} view bare (Err f) read again e g = sym e ∙ ap (λ (z : Result Y SpFault). z >>= λ y. Ok (bare y)) g
