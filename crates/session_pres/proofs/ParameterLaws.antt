-- The parameters of an SPDU, one after another.
use Rattle.std.proofs.Common.{◌≡◌, ℕ, zero, suc, ◌+◌, ◌*◌, ◌<◌, ◌≤◌, Bool, true, false, cond, eqb, ltb, List, [], ◌∷◌, ◌++◌, length, take, drop, Option, Some, None, refl, sym, ap, subst, ◌∙◌, append_assoc, arith}
use Rattle.std.specs.Prelude.{is_some}
use Rattle.std.specs.List.{AllByRecursion}
use Rattle.std.specs.Option.{option_map}
use Rattle.std.proofs.lemmas.Bool.{eqb-true, ltb-true, ltb-false, lt-ltb, le-ltb, eq-eqb, ne_eqb, cond_both, and_parts}
use Rattle.std.proofs.lemmas.List.{length-append, take_at, drop_at, length-take, take-append-drop, append-nil, nil_from_length}
use Rattle.list_laws.proofs.Options.{some_is, chosen, some_of}
use Rattle.ber_grammar.specs.Place.{Piece}
use Rattle.ber_grammar.specs.Reader.{and_then}
use Rattle.ber_grammar.proofs.OptionLaws.{then_some, first_none, first_first}
use Rattle.session_pres.specs.declared.codes.TheConstants.{CONNECT_ACCEPT_ITEM, USER_DATA}
use Rattle.session_pres.specs.Places.{front, behind}
use Rattle.session_pres.specs.Parameters.{IsLength, Parameter, BeginsWith, AreParameters, IsCut, IsUserOf, last_of}
use Rattle.session_pres.specs.ParameterReading.{length_at, head_at, parameter_at, bounded_parameters, parameters_at, is_cut, all_cut, if_user, user_at}
use Rattle.list_laws.proofs.Truths.{and-false}

-- ---- a length

pub length_again : (len : List ℕ) (n : ℕ) (rest : List ℕ) → IsLength len n → length_at (len ++ rest) ≡ Some (n, length len)
unfolding length_at
length_again [] n rest h = absurd h
length_again (a ∷ []) n [] h = rw (lt-ltb a 255 h.0, h.1) refl
length_again (a ∷ []) n (b ∷ []) h = rw (lt-ltb a 255 h.0, h.1) refl
length_again (a ∷ []) n (b ∷ c ∷ rest) h = rw (lt-ltb a 255 h.0, h.1) refl
length_again (a ∷ b ∷ []) n rest h = absurd h
length_again (a ∷ b ∷ c ∷ []) n rest h = rw (h.0, h.1) (rw (le-ltb (b * 256 + c) 255 (omega (arith, h.1, h.2))) refl)
length_again (a ∷ b ∷ c ∷ d ∷ more) n rest h = absurd h

-- what a length that is read says of the octets
abbrev pub LengthTells : List ℕ → Option (ℕ × ℕ) → Type 0
LengthTells octets None = Unit {0}
LengthTells octets (Some x) = (len rest : List ℕ) × IsLength len x.0 × (octets ≡ len ++ rest) × (x.1 ≡ length len)

pub length_tells : (octets : List ℕ) → LengthTells octets (length_at octets)
unfolding length_at
length_tells [] = tt
length_tells (a ∷ []) = cond_both (ltb a 255) (Some (a, 1)) None (λ r. LengthTells (a ∷ []) r) (λ e. (a ∷ [], [], (ltb-true a 255 e, refl), refl, refl)) (λ e. tt)
length_tells (a ∷ b ∷ []) = cond_both (ltb a 255) (Some (a, 1)) None (λ r. LengthTells (a ∷ b ∷ []) r) (λ e. (a ∷ [], b ∷ [], (ltb-true a 255 e, refl), refl, refl)) (λ e. tt)
length_tells (a ∷ b ∷ c ∷ rest) =
    cond_both (ltb a 255) (Some (a, 1)) (cond (eqb a 255) (cond (ltb (b * 256 + c) 255) None (Some (b * 256 + c, 3))) None) (λ r. LengthTells (a ∷ b ∷ c ∷ rest) r)
    (λ e. (a ∷ [], b ∷ c ∷ rest, (ltb-true a 255 e, refl), refl, refl))
    (λ e. cond_both (eqb a 255) (cond (ltb (b * 256 + c) 255) None (Some (b * 256 + c, 3))) None (λ r. LengthTells (a ∷ b ∷ c ∷ rest) r)
    (λ d. cond_both (ltb (b * 256 + c) 255) None (Some (b * 256 + c, 3)) (λ r. LengthTells (a ∷ b ∷ c ∷ rest) r)
    (λ f. tt)
    (λ f. (a ∷ b ∷ c ∷ [], rest, (eqb-true a 255 d, refl, ltb-false (b * 256 + c) 255 f), refl, refl)))
    (λ d. tt))

-- ---- one parameter

abbrev HeadTells : List ℕ → Option (ℕ × ℕ × ℕ) → Type 0
HeadTells octets None = Unit {0}
HeadTells octets (Some h) = (len : List ℕ) × (body : List ℕ) × IsLength len h.2 × (octets ≡ h.0 ∷ (len ++ body)) × (h.1 ≡ length len + 1) × (h.2 ≤ length body)

head_from : (code : ℕ) (rest : List ℕ) (r : Option (ℕ × ℕ)) → LengthTells rest r → HeadTells (code ∷ rest) (and_then r (λ len. cond (ltb (length rest) (len.1 + len.0)) None (Some (code, len.1 + 1, len.0))))
head_from code rest None h = tt
head_from code rest (Some x) (len, body, is_length, p, q) =
    cond_both (ltb (length rest) (x.1 + x.0)) None (Some (code, x.1 + 1, x.0)) (λ r. HeadTells (code ∷ rest) r)
    (λ e. tt)
    (λ e. let le = ltb-false (length rest) (x.1 + x.0) e in (len, body, is_length, ap (λ (xs : List ℕ). code ∷ xs) p, omega (arith, q), omega (arith, le, q, ap length p, length-append len body)))

head_tells : (octets : List ℕ) → HeadTells octets (head_at octets)
unfolding head_at
head_tells [] = tt
head_tells (code ∷ rest) = head_from code rest (length_at rest) (length_tells rest)

head_again : (code : ℕ) (len body : List ℕ) (n : ℕ) → IsLength len n → n ≤ length body → head_at (code ∷ (len ++ body)) ≡ Some (code, length len + 1, n)
unfolding head_at
head_again code len body n is_length le = rw (length_again len n body is_length, le-ltb (length (len ++ body)) (length len + n) (omega (arith, le, length-append len body))) refl

pub piece_is : (a b : Piece) → a.octets ≡ b.octets → a.block ≡ b.block → a.place ≡ b.place → a ≡ b
piece_is a b p q r =
    ap (λ (x : List ℕ). let y : Piece = record { octets = x; block = a.block; place = a.place } in y) p
    ∙ ap (λ (x : ℕ). let y : Piece = record { octets = b.octets; block = x; place = a.place } in y) q
    ∙ ap (λ (x : ℕ). let y : Piece = record { octets = b.octets; block = b.block; place = x } in y) r

-- what is after a code and a length
behind_head : (octets : List ℕ) (code : ℕ) (len body : List ℕ) (n : ℕ) → octets ≡ code ∷ (len ++ body) → n ≡ length len + 1 → drop n octets ≡ body
behind_head octets code len body n p q = ap (drop n) p ∙ drop_at (code ∷ len) body n (omega (arith, q))

behind_value : (octets : List ℕ) (code : ℕ) (len value rest : List ℕ) (n : ℕ) → octets ≡ code ∷ (len ++ (value ++ rest)) → n ≡ length len + 1 + length value → drop n octets ≡ rest
behind_value octets code len value rest n p q =
    ap (drop n) (p ∙ ap (λ (x : List ℕ). code ∷ x) (sym (append_assoc len value rest))) ∙ drop_at (code ∷ (len ++ value)) rest n (omega (arith, q, length-append len value))

abbrev ParameterTells : Piece → Option (Parameter × Piece) → Type 0
ParameterTells input None = Unit {0}
ParameterTells input (Some x) = BeginsWith input x.0 x.1

from_head : (input : Piece) (r : Option (ℕ × ℕ × ℕ)) → HeadTells input.octets r → ParameterTells input (option_map (λ h. (record { code = h.0; value = front h.2 (behind h.1 input) }, behind (h.1 + h.2) input)) r)
from_head input None h = tt
from_head input (Some h) (len, body, is_length, p, q, le) =
    let value : drop h.1 input.octets ≡ body = behind_head input.octets h.0 len body h.1 p q in
    let count : length (take h.2 (drop h.1 input.octets)) ≡ h.2 = omega (arith, le, ap length value, length-take h.2 (drop h.1 input.octets)) in
    let split : input.octets ≡ h.0 ∷ (len ++ (take h.2 body ++ drop h.2 body)) = p ∙ ap (λ (x : List ℕ). h.0 ∷ (len ++ x)) (sym (take-append-drop h.2 body)) in
    let after : drop (h.1 + h.2) input.octets ≡ drop h.2 body = behind_value input.octets h.0 len (take h.2 body) (drop h.2 body) (h.1 + h.2) split (omega (arith, q, le, length-take h.2 body)) in
    record {
      len = len;
      is_length = subst (λ (n : ℕ). IsLength len n) (sym count) is_length;
      whole = rw (value, after) split;
      value = (refl, omega (arith, q));
      after = (refl, omega (arith, q, count));
    }

parameter_tells : (input : Piece) → ParameterTells input (parameter_at input)
unfolding parameter_at
parameter_tells input = from_head input (head_at input.octets) (head_tells input.octets)

pub parameter_found : (input : Piece) (x : Parameter × Piece) → parameter_at input ≡ Some x → BeginsWith input x.0 x.1
parameter_found input x h = subst (λ (r : Option (Parameter × Piece)). ParameterTells input r) h (parameter_tells input)

pub parameter_again : (input : Piece) (p : Parameter) (rest : Piece) → BeginsWith input p rest → parameter_at input ≡ Some (p, rest)
unfolding parameter_at
parameter_again input p rest b =
    let head : head_at input.octets ≡ Some (p.code, length b.len + 1, length p.value.octets) =
    ap head_at b.whole ∙ head_again p.code b.len (p.value.octets ++ rest.octets) (length p.value.octets) b.is_length (omega (arith, length-append p.value.octets rest.octets)) in
    let body : drop (length b.len + 1) input.octets ≡ p.value.octets ++ rest.octets = behind_head input.octets p.code b.len (p.value.octets ++ rest.octets) (length b.len + 1) b.whole refl in
    let value : front (length p.value.octets) (behind (length b.len + 1) input) ≡ p.value =
    piece_is _ _ (ap (take (length p.value.octets)) body ∙ take_at p.value.octets rest.octets (length p.value.octets) refl) (sym b.value.0) (sym b.value.1) in
    let after : behind (length b.len + 1 + length p.value.octets) input ≡ rest =
    piece_is _ _ (behind_value input.octets p.code b.len p.value.octets rest.octets (length b.len + 1 + length p.value.octets) b.whole refl) (sym b.after.0) (sym b.after.1) in
    rw (head, value, after) refl

-- ---- all parameters

shorter : (input : Piece) (p : Parameter) (rest : Piece) → BeginsWith input p rest → length rest.octets < length input.octets
shorter input p rest b = omega (arith, ap length b.whole, length-append b.len (p.value.octets ++ rest.octets), length-append p.value.octets rest.octets)

pub parameter_shorter : (input : Piece) (p : Parameter) (rest : Piece) → parameter_at input ≡ Some (p, rest) → length rest.octets < length input.octets
parameter_shorter input p rest h = shorter input p rest (parameter_found input (p, rest) h)

same_then : {A B : Type 0} (r : Option A) (f g : A → Option B) → ((x : A) → r ≡ Some x → f x ≡ g x) → and_then r f ≡ and_then r g
same_then (Some x) f g h = h x refl
same_then None f g h = refl

-- a larger bound changes nothing
enough : (n m : ℕ) (input : Piece) → length input.octets < n → length input.octets < m → bounded_parameters n input ≡ bounded_parameters m input
unfolding bounded_parameters
enough zero m input p q = absurd (omega (arith, p))
enough (suc n) zero input p q = absurd (omega (arith, q))
enough (suc n) (suc m) input p q =
    ap (λ (r : Option (List Parameter)). cond (eqb (length input.octets) 0) (Some []) r)
    (same_then (parameter_at input) (λ x. and_then (bounded_parameters n x.1) (λ ps. Some (x.0 ∷ ps))) (λ x. and_then (bounded_parameters m x.1) (λ ps. Some (x.0 ∷ ps)))
    (λ x h. let lt = shorter input x.0 x.1 (parameter_found input x h) in
    ap (λ (r : Option (List Parameter)). and_then r (λ ps. Some (x.0 ∷ ps))) (enough n m x.1 (omega (arith, lt, p)) (omega (arith, lt, q)))))

pub parameters_none : (input : Piece) → eqb (length input.octets) 0 ≡ true → parameters_at input ≡ Some []
unfolding parameters_at bounded_parameters
parameters_none input e = rw e refl

pub parameters_step : (input : Piece) → eqb (length input.octets) 0 ≡ false → parameters_at input ≡ and_then (parameter_at input) (λ x. and_then (parameters_at x.1) (λ ps. Some (x.0 ∷ ps)))
unfolding parameters_at bounded_parameters
parameters_step input e =
    rw e (same_then (parameter_at input) (λ x. and_then (bounded_parameters (length input.octets) x.1) (λ ps. Some (x.0 ∷ ps))) (λ x. and_then (bounded_parameters (suc (length x.1.octets)) x.1) (λ ps. Some (x.0 ∷ ps)))
    (λ x h. let lt = shorter input x.0 x.1 (parameter_found input x h) in
    ap (λ (r : Option (List Parameter)). and_then r (λ ps. Some (x.0 ∷ ps))) (enough (length input.octets) (suc (length x.1.octets)) x.1 lt (omega arith))))

-- nothing is read where the next parameter isn't whole
step_broken : (rest : Piece) → eqb (length rest.octets) 0 ≡ false → parameter_at rest ≡ None → parameters_at rest ≡ None
step_broken rest some this = parameters_step rest some ∙ rw this refl

-- ---- what parameters are

abbrev ParametersTell : Piece → Option (List Parameter) → Type 0
ParametersTell input None = Unit {0}
ParametersTell input (Some ps) = AreParameters input ps

then_tells : (input rest : Piece) (p : Parameter) (r : Option (List Parameter)) → BeginsWith input p rest → ParametersTell rest r → ParametersTell input (and_then r (λ ps. Some (p ∷ ps)))
then_tells input rest p None b h = tt
then_tells input rest p (Some ps) b h = (rest, b, h)

first_tells : (n : ℕ) (input : Piece) (r : Option (Parameter × Piece)) → ParameterTells input r → ((rest : Piece) → ParametersTell rest (bounded_parameters n rest))
    → ParametersTell input (and_then r (λ x. and_then (bounded_parameters n x.1) (λ ps. Some (x.0 ∷ ps))))
first_tells n input None h ih = tt
first_tells n input (Some x) h ih = then_tells input x.1 x.0 (bounded_parameters n x.1) h (ih x.1)

bounded_tells : (n : ℕ) (input : Piece) → ParametersTell input (bounded_parameters n input)
unfolding bounded_parameters
bounded_tells zero input = tt
bounded_tells (suc n) input =
    cond_both (eqb (length input.octets) 0) (Some []) (and_then (parameter_at input) (λ x. and_then (bounded_parameters n x.1) (λ ps. Some (x.0 ∷ ps)))) (λ r. ParametersTell input r)
    (λ e. nil_from_length input.octets (eqb-true _ _ e))
    (λ e. first_tells n input (parameter_at input) (parameter_tells input) (bounded_tells n))

parameters_tell : (input : Piece) → ParametersTell input (parameters_at input)
unfolding parameters_at
parameters_tell input = bounded_tells (suc (length input.octets)) input

pub parameters_found : (input : Piece) (ps : List Parameter) → parameters_at input ≡ Some ps → AreParameters input ps
parameters_found input ps h = subst (λ (r : Option (List Parameter)). ParametersTell input r) h (parameters_tell input)

pub some_left : (input : Piece) (p : Parameter) (rest : Piece) → BeginsWith input p rest → eqb (length input.octets) 0 ≡ false
some_left input p rest b = ne_eqb (length input.octets) 0 (λ e. omega (arith, e, shorter input p rest b))

pub parameters_again : (input : Piece) (ps : List Parameter) → AreParameters input ps → parameters_at input ≡ Some ps
parameters_again input [] h = parameters_none input (eq-eqb (length input.octets) 0 (ap length h))
parameters_again input (p ∷ ps) (rest, b, h) =
    parameters_step input (some_left input p rest b) ∙ rw (parameter_again input p rest b, parameters_again rest ps h) refl

-- ---- a group

pub cut_found : (p : Parameter) → is_cut p ≡ true → IsCut p
cut_found p h e =
    let some : is_some (parameters_at p.value) ≡ true = sym (ap (λ (b : Bool). cond b (is_some (parameters_at p.value)) true) (eq-eqb p.code CONNECT_ACCEPT_ITEM e)) ∙ h in
    let inner = some_of (parameters_at p.value) some in
    (inner.0, parameters_found p.value inner.0 inner.1)

cut_at : (p : Parameter) (b : Bool) → eqb p.code CONNECT_ACCEPT_ITEM ≡ b → IsCut p → cond b (is_some (parameters_at p.value)) true ≡ true
cut_at p false e h = refl
cut_at p true e h = let inner = h (eqb-true p.code CONNECT_ACCEPT_ITEM e) in rw (parameters_again p.value inner.0 inner.1) refl

pub cut_again : (p : Parameter) → IsCut p → is_cut p ≡ true
cut_again p h = cut_at p (eqb p.code CONNECT_ACCEPT_ITEM) refl h

all_cut_found : (ps : List Parameter) → all_cut ps ≡ true → AllByRecursion IsCut ps
all_cut_found [] h = tt
all_cut_found (p ∷ ps) h = let b = and_parts (is_cut p) (all_cut ps) h in (cut_found p b.0, all_cut_found ps b.1)

all_cut_again : (ps : List Parameter) → AllByRecursion IsCut ps → all_cut ps ≡ true
all_cut_again [] h = refl
all_cut_again (p ∷ ps) h = rw (cut_again p h.0, all_cut_again ps h.1) refl

-- ---- user data

pub user_found : (input : Piece) (user : Option Piece) → user_at input ≡ Some user → IsUserOf input user
unfolding user_at
user_found input user h =
    let ps = then_some (parameters_at input) (λ ps. cond (all_cut ps) (Some (last_of USER_DATA ps)) None) user h in
    let c = chosen (all_cut ps.0) (Some (last_of USER_DATA ps.0)) user ps.2 in
    (ps.0, parameters_found input ps.0 ps.1, all_cut_found ps.0 c.0, sym (some_is (last_of USER_DATA ps.0) user c.1))

pub user_again : (input : Piece) (user : Option Piece) → IsUserOf input user → user_at input ≡ Some user
unfolding user_at
user_again input user (ps, are, cut, is) = rw (parameters_again input ps are, all_cut_again ps cut, is) refl

-- ---- a loop

-- the parameters of the front, and those of the rest, are all
abbrev Goes : List Parameter → Piece → Piece → Type 0
Goes before input rest = parameters_at input ≡ and_then (parameters_at rest) (λ ps. Some (before ++ ps))

none_before : (r : Option (List Parameter)) → r ≡ and_then r (λ ps. Some ([] ++ ps))
none_before (Some ps) = refl
none_before None = refl

one_before : (before : List Parameter) (p : Parameter) (r : Option (List Parameter)) → and_then (and_then r (λ ps. Some (p ∷ ps))) (λ ps. Some (before ++ ps)) ≡ and_then r (λ ps. Some ((before ++ p ∷ []) ++ ps))
one_before before p (Some ps) = ap (λ (x : List Parameter). Some x) (sym (append_assoc before (p ∷ []) ps))
one_before before p None = refl

Goes-more : (before : List Parameter) (input rest after : Piece) (p : Parameter) → Goes before input rest → eqb (length rest.octets) 0 ≡ false → parameter_at rest ≡ Some (p, after) → Goes (before ++ p ∷ []) input after
Goes-more before input rest after p h some this =
    h ∙ ap (λ (r : Option (List Parameter)). and_then r (λ ps. Some (before ++ ps))) (parameters_step rest some ∙ rw this refl) ∙ one_before before p (parameters_at after)

last_of-more : (ps : List Parameter) (p : Parameter) → last_of USER_DATA (ps ++ p ∷ []) ≡ if_user p (last_of USER_DATA ps)
last_of-more [] p = sym (first_none (cond (eqb p.code USER_DATA) (Some p.value) None))
last_of-more (q ∷ ps) p = rw (last_of-more ps p) (sym (first_first (cond (eqb p.code USER_DATA) (Some p.value) None) (last_of USER_DATA ps) (cond (eqb q.code USER_DATA) (Some q.value) None)))

all_cut-more : (ps : List Parameter) (p : Parameter) → all_cut ps ≡ true → is_cut p ≡ true → all_cut (ps ++ p ∷ []) ≡ true
all_cut-more [] p h e = rw e refl
all_cut-more (q ∷ ps) p h e = let b = and_parts (is_cut q) (all_cut ps) h in rw (b.0, all_cut-more ps p b.1 e) refl

all_cut-uncut : (ps : List Parameter) (p : Parameter) (qs : List Parameter) → is_cut p ≡ false → all_cut (ps ++ (p ∷ qs)) ≡ false
all_cut-uncut [] p qs e = rw e refl
all_cut-uncut (q ∷ ps) p qs e = rw (all_cut-uncut ps p qs e) (and-false (is_cut q))

-- what was read before the rest
abbrev pub UserGoes : Piece → Piece → Option Piece → Type 0
UserGoes input rest user = (before : List Parameter) × Goes before input rest × (all_cut before ≡ true) × (last_of USER_DATA before ≡ user)

pub UserGoes-none : (input : Piece) → UserGoes input input None
UserGoes-none input = ([], none_before (parameters_at input), refl, refl)

pub UserGoes-more : (input rest after : Piece) (p : Parameter) (user : Option Piece) → UserGoes input rest user → eqb (length rest.octets) 0 ≡ false → parameter_at rest ≡ Some (p, after) → is_cut p ≡ true → UserGoes input after (if_user p user)
UserGoes-more input rest after p user (before, h, cut, last) some this whole =
    (before ++ p ∷ [], Goes-more before input rest after p h some this, all_cut-more before p cut whole, last_of-more before p ∙ ap (λ (x : Option Piece). if_user p x) last)

pub UserGoes-broken : (input rest : Piece) (user : Option Piece) → UserGoes input rest user → eqb (length rest.octets) 0 ≡ false → parameter_at rest ≡ None → user_at input ≡ None
unfolding user_at
UserGoes-broken input rest user (before, h, cut, last) some this =
    let none : parameters_at input ≡ None = h ∙ ap (λ (r : Option (List Parameter)). and_then r (λ ps. Some (before ++ ps))) (step_broken rest some this) in
    rw none refl

uncut : (before : List Parameter) (p : Parameter) (r : Option (List Parameter)) → is_cut p ≡ false
    → and_then (and_then r (λ ps. Some ((before ++ p ∷ []) ++ ps))) (λ ps. cond (all_cut ps) (Some (last_of USER_DATA ps)) None) ≡ None
uncut before p (Some ps) e = rw (append_assoc before (p ∷ []) ps, all_cut-uncut before p ps e) refl
uncut before p None e = refl

pub UserGoes-uncut : (input rest after : Piece) (p : Parameter) (user : Option Piece) → UserGoes input rest user → eqb (length rest.octets) 0 ≡ false → parameter_at rest ≡ Some (p, after) → is_cut p ≡ false → user_at input ≡ None
unfolding user_at
UserGoes-uncut input rest after p user (before, h, cut, last) some this broken =
    rw (Goes-more before input rest after p h some this) (uncut before p (parameters_at after) broken)

pub UserGoes-all : (input rest : Piece) (user : Option Piece) → UserGoes input rest user → eqb (length rest.octets) 0 ≡ true → user_at input ≡ Some user
unfolding user_at
UserGoes-all input rest user (before, h, cut, last) none =
    let all : parameters_at input ≡ Some before = h ∙ ap (λ (r : Option (List Parameter)). and_then r (λ ps. Some (before ++ ps))) (parameters_none rest none) ∙ ap (λ (x : List Parameter). Some x) (append-nil before) in
    rw (all, cut, last) refl

-- whether all cut is whether the rest does
abbrev pub CutsAs : Piece → Piece → Type 0
CutsAs input rest = is_some (parameters_at input) ≡ is_some (parameters_at rest)

one_more_some : (p : Parameter) (r : Option (List Parameter)) → is_some (and_then r (λ ps. Some (p ∷ ps))) ≡ is_some r
one_more_some p (Some ps) = refl
one_more_some p None = refl

pub CutsAs-more : (input rest after : Piece) (p : Parameter) → CutsAs input rest → eqb (length rest.octets) 0 ≡ false → parameter_at rest ≡ Some (p, after) → CutsAs input after
CutsAs-more input rest after p h some this = h ∙ ap (λ (r : Option (List Parameter)). is_some r) (parameters_step rest some ∙ rw this refl) ∙ one_more_some p (parameters_at after)

pub CutsAs-broken : (input rest : Piece) → CutsAs input rest → eqb (length rest.octets) 0 ≡ false → parameter_at rest ≡ None → is_some (parameters_at input) ≡ false
CutsAs-broken input rest h some this = h ∙ ap (λ (r : Option (List Parameter)). is_some r) (step_broken rest some this)

pub CutsAs-all : (input rest : Piece) → CutsAs input rest → eqb (length rest.octets) 0 ≡ true → is_some (parameters_at input) ≡ true
CutsAs-all input rest h none = h ∙ ap (λ (r : Option (List Parameter)). is_some r) (parameters_none rest none)
