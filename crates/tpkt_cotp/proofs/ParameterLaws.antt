-- Parameters, one after another.
use Rattle.std.proofs.Common.{◌≡◌, ◌≢◌, ℕ, zero, suc, ◌≤◌, ◌<◌, Bool, cond, eqb, ltb, List, [], ◌∷◌, ◌++◌, length, take, drop, min, Option, Some, None, Result, Ok, Err, refl, sym, ap, subst, ◌∙◌, arith}
use Rattle.std.specs.List.{flat_map, AllByRecursion}
use Rattle.std.proofs.lemmas.Bool.{eqb-true, eqb-false, ltb-true, ltb-false, cond_both}
use Rattle.std.proofs.lemmas.List.{length-append, take_at, drop_at, length-drop, length-take, take-append-drop}
use Rattle.std.proofs.lemmas.List.Concat.{flat_map-cons}
use Rattle.ber_grammar.proofs.OptionLaws.{first_none, first_first}
use Rattle.tpkt_cotp.specs.declared.codes.TheConstants.{TPDU_SIZE, CALLING, CALLED}
use Rattle.tpkt_cotp.specs.declared.fault.TpFault.{TpFault}
use Rattle.tpkt_cotp.specs.declared.fault.TpFault.TheVariants.{Tpdu}
use Rattle.tpkt_cotp.specs.declared.tsdus.Cr.{Cr}
use Rattle.ber_grammar.specs.Reader.{◌>>=◌, first_of_two}
use Rattle.tpkt_cotp.specs.Parameters.{Parameter, spelled, IsAllowed, last_of, exponent_of, said, size_at, put_at, parameter_at, parameters_at, parameters_of}

-- ---- the number of parameters that are allowed for does not count

bind_same : (r : Result Cr TpFault) (f g : Cr → Result Cr TpFault) → ((x : Cr) → f x ≡ g x) → (r >>= f) ≡ (r >>= g)
bind_same (Ok x) f g h = h x
bind_same (Err e) f g h = refl

same_fuel : (n m : ℕ) (cr : Cr) (xs : List ℕ) → length xs ≤ n → length xs ≤ m → parameters_at n cr xs ≡ parameters_at m cr xs
same_fuel zero zero cr xs a b = refl
same_fuel zero (suc m) cr [] a b = refl
same_fuel zero (suc m) cr (x ∷ []) a b = refl
same_fuel zero (suc m) cr (x ∷ y ∷ more) a b = absurd (omega arith)
same_fuel (suc n) zero cr [] a b = refl
same_fuel (suc n) zero cr (x ∷ []) a b = refl
same_fuel (suc n) zero cr (x ∷ y ∷ more) a b = absurd (omega arith)
same_fuel (suc n) (suc m) cr [] a b = refl
same_fuel (suc n) (suc m) cr (x ∷ []) a b = refl
same_fuel (suc n) (suc m) cr (code ∷ len ∷ more) a b =
    ap (λ (r : Result Cr TpFault). cond (ltb (length more) len) (Err Tpdu) r)
    (bind_same (put_at cr code (take len more)) (λ next. parameters_at n next (drop len more)) (λ next. parameters_at m next (drop len more))
    (λ next. same_fuel n m next (drop len more) (omega (arith, length-drop len more)) (omega (arith, length-drop len more))))

parameters_none : (cr : Cr) → parameters_of cr [] ≡ Ok cr
unfolding parameters_of
parameters_none cr = refl

parameters_lone : (cr : Cr) (code : ℕ) → parameters_of cr (code ∷ []) ≡ Err Tpdu
unfolding parameters_of
parameters_lone cr code = refl

parameters_step : (cr : Cr) (code len : ℕ) (more : List ℕ) → parameters_of cr (code ∷ len ∷ more) ≡ cond (ltb (length more) len) (Err Tpdu) (put_at cr code (take len more) >>= λ next. parameters_of next (drop len more))
unfolding parameters_of
parameters_step cr code len more =
    ap (λ (r : Result Cr TpFault). cond (ltb (length more) len) (Err Tpdu) r)
    (bind_same (put_at cr code (take len more)) (λ next. parameters_at (suc (length more)) next (drop len more)) (λ next. parameters_at (length (drop len more)) next (drop len more))
    (λ next. same_fuel (suc (length more)) (length (drop len more)) next (drop len more) (omega (arith, length-drop len more)) (omega arith)))

-- what the first parameter makes of the rest
abbrev Follows : Cr → List ℕ → Result (Option (ℕ × List ℕ × List ℕ)) TpFault → Type 0
Follows cr octets (Ok None) = parameters_of cr octets ≡ Ok cr
Follows cr octets (Ok (Some p)) = (length p.2 < length octets) × (parameters_of cr octets ≡ (put_at cr p.0 p.1 >>= λ next. parameters_of next p.2))
Follows cr octets (Err f) = parameters_of cr octets ≡ Err f

follows : (cr : Cr) (octets : List ℕ) → Follows cr octets (parameter_at octets)
follows cr [] = parameters_none cr
follows cr (code ∷ []) = parameters_lone cr code
follows cr (code ∷ len ∷ more) =
    cond_both (ltb (length more) len) (Err Tpdu) (Ok (Some (code, take len more, drop len more))) (λ r. Follows cr (code ∷ len ∷ more) r)
    (λ e. parameters_step cr code len more ∙ ap (λ (b : Bool). cond b (Err Tpdu) (put_at cr code (take len more) >>= λ next. parameters_of next (drop len more))) e)
    (λ e. (
      omega (arith, length-drop len more),
      parameters_step cr code len more ∙ ap (λ (b : Bool). cond b (Err Tpdu) (put_at cr code (take len more) >>= λ next. parameters_of next (drop len more))) e,
    ))

abbrev OptionalParameter : Type 0
OptionalParameter = Option (ℕ × List ℕ × List ℕ)

pub parameters_end : (cr : Cr) (octets : List ℕ) → parameter_at octets ≡ Ok None → parameters_of cr octets ≡ Ok cr
parameters_end cr octets h = subst (λ (r : Result OptionalParameter TpFault). Follows cr octets r) h (follows cr octets)

pub parameters_broken : (cr : Cr) (octets : List ℕ) (f : TpFault) → parameter_at octets ≡ Err f → parameters_of cr octets ≡ Err f
parameters_broken cr octets f h = subst (λ (r : Result OptionalParameter TpFault). Follows cr octets r) h (follows cr octets)

pub parameters_more : (cr next : Cr) (octets value after : List ℕ) (code : ℕ) → parameter_at octets ≡ Ok (Some (code, value, after)) → put_at cr code value ≡ Ok next → parameters_of cr octets ≡ parameters_of next after
parameters_more cr next octets value after code h put =
    (subst (λ (r : Result OptionalParameter TpFault). Follows cr octets r) h (follows cr octets)).1 ∙ ap (λ (r : Result Cr TpFault). r >>= λ next. parameters_of next after) put

pub parameters_bad : (cr : Cr) (octets value after : List ℕ) (code : ℕ) (f : TpFault) → parameter_at octets ≡ Ok (Some (code, value, after)) → put_at cr code value ≡ Err f → parameters_of cr octets ≡ Err f
parameters_bad cr octets value after code f h put =
    (subst (λ (r : Result OptionalParameter TpFault). Follows cr octets r) h (follows cr octets)).1 ∙ ap (λ (r : Result Cr TpFault). r >>= λ next. parameters_of next after) put

-- ---- what parameters say

-- the value, if it is a parameter's of this code
abbrev pub if_code : ℕ → Parameter → Option (List ℕ)
if_code code p = cond (eqb p.code code) (Some p.value) None

-- what one more parameter, or several, say of a connection of which something was said
abbrev pub over : Cr → List Parameter → Cr
over cr ps = record {
  src = cr.src;
  size = first_of_two (exponent_of (last_of TPDU_SIZE ps)) cr.size;
  calling = first_of_two (last_of CALLING ps) cr.calling;
  called = first_of_two (last_of CALLED ps) cr.called;
}

abbrev over_one : Cr → Parameter → Cr
over_one cr p = record {
  src = cr.src;
  size = first_of_two (exponent_of (if_code TPDU_SIZE p)) cr.size;
  calling = first_of_two (if_code CALLING p) cr.calling;
  called = first_of_two (if_code CALLED p) cr.called;
}

cr_is : (src : ℕ) (a b : Option ℕ) (c d e f : Option (List ℕ)) → a ≡ b → c ≡ d → e ≡ f → (let x : Cr = record { src = src; size = a; calling = c; called = e } in x) ≡ (let y : Cr = record { src = src; size = b; calling = d; called = f } in y)
cr_is src a b c d e f p q r = rw (p, q, r) refl

exponent_first : (a b : Option (List ℕ)) → exponent_of (first_of_two a b) ≡ first_of_two (exponent_of a) (exponent_of b)
exponent_first (Some x) b = refl
exponent_first None b = refl

over_more : (cr : Cr) (p : Parameter) (ps : List Parameter) → over (over_one cr p) ps ≡ over cr (p ∷ ps)
over_more cr p ps = cr_is cr.src _ _ _ _ _ _
    (first_first (exponent_of (last_of TPDU_SIZE ps)) (exponent_of (if_code TPDU_SIZE p)) cr.size ∙ ap (λ (x : Option ℕ). first_of_two x cr.size) (sym (exponent_first (last_of TPDU_SIZE ps) (if_code TPDU_SIZE p))))
    (first_first (last_of CALLING ps) (if_code CALLING p) cr.calling)
    (first_first (last_of CALLED ps) (if_code CALLED p) cr.called)

abbrev pub unsaid : ℕ → Cr
unsaid src = record { src = src; size = None; calling = None; called = None }

pub over_unsaid : (src : ℕ) (ps : List Parameter) → over (unsaid src) ps ≡ said src ps
over_unsaid src ps = cr_is src _ _ _ _ _ _ (first_none (exponent_of (last_of TPDU_SIZE ps))) (first_none (last_of CALLING ps)) (first_none (last_of CALLED ps))

-- ---- one parameter is put

abbrev PutTells : Cr → ℕ → List ℕ → Result Cr TpFault → Type 0
PutTells cr code value (Ok next) = (next ≡ over_one cr (record { code = code; value = value })) × IsAllowed (record { code = code; value = value })
PutTells cr code value (Err f) = (f ≡ Tpdu) × ¬ IsAllowed (record { code = code; value = value })

one_octet : (value : List ℕ) (e : ℕ) → value ≡ e ∷ [] → length value ≡ 1
one_octet value e p = ap length p

size_tells : (cr : Cr) (value : List ℕ) → PutTells cr TPDU_SIZE value (size_at cr value)
size_tells cr [] = (refl, λ h. let x = h refl in absurd (omega (arith, one_octet [] x.0 x.1)))
size_tells cr (e ∷ []) =
    cond_both (ltb e 7) (Err Tpdu) (Ok (record { src = cr.src; size = Some (min e 13); calling = cr.calling; called = cr.called })) (λ r. PutTells cr TPDU_SIZE (e ∷ []) r)
    (λ t. (refl, λ h. let x = h refl in let same : e ≡ x.0 = cc (x.1) in absurd (omega (arith, same, x.2, ltb-true e 7 t))))
    (λ t. (refl, λ _. (e, refl, ltb-false e 7 t)))
size_tells cr (e ∷ f ∷ more) = (refl, λ h. let x = h refl in absurd (omega (arith, one_octet (e ∷ f ∷ more) x.0 x.1)))

put_tells : (cr : Cr) (code : ℕ) (value : List ℕ) → PutTells cr code value (put_at cr code value)
put_tells cr code value =
    cond_both (eqb code TPDU_SIZE) (size_at cr value) _ (λ r. PutTells cr code value r)
    (λ t. subst (λ (x : ℕ). PutTells cr x value (size_at cr value)) (sym (eqb-true code TPDU_SIZE t)) (size_tells cr value))
    (λ t. let other : code ≢ TPDU_SIZE = eqb-false code TPDU_SIZE t in
    cond_both (eqb code CALLING) (Ok (record { src = cr.src; size = cr.size; calling = Some value; called = cr.called })) _ (λ r. PutTells cr code value r)
    (λ u. subst (λ (x : ℕ). PutTells cr x value (Ok (record { src = cr.src; size = cr.size; calling = Some value; called = cr.called }))) (sym (eqb-true code CALLING u)) (refl, λ h. absurd (omega (arith, h))))
    (λ u. cond_both (eqb code CALLED) (Ok (record { src = cr.src; size = cr.size; calling = cr.calling; called = Some value })) (Ok cr) (λ r. PutTells cr code value r)
    (λ v. subst (λ (x : ℕ). PutTells cr x value (Ok (record { src = cr.src; size = cr.size; calling = cr.calling; called = Some value }))) (sym (eqb-true code CALLED v)) (refl, λ h. absurd (omega (arith, h))))
    (λ v. (rw (t, u, v) refl, λ h. absurd (other h)))))

-- ---- all parameters

-- what reading told of octets
abbrev pub ParametersTell : Cr → List ℕ → Result Cr TpFault → Type 0
ParametersTell cr octets (Ok next) = (ps : List Parameter) × (octets ≡ flat_map spelled ps) × AllByRecursion IsAllowed ps × (next ≡ over cr ps)
ParametersTell cr octets (Err f) = (f ≡ Tpdu) × ((ps : List Parameter) → AllByRecursion IsAllowed ps → octets ≢ flat_map spelled ps)

parts : (code len : ℕ) (more : List ℕ) (p : Parameter) (ps : List Parameter) → code ∷ len ∷ more ≡ flat_map spelled (p ∷ ps)
    → (p ≡ (let q : Parameter = record { code = code; value = take len more } in q)) × (drop len more ≡ flat_map spelled ps) × (len ≤ length more)
parts code len more p ps e =
    let whole : code ∷ len ∷ more ≡ p.code ∷ length p.value ∷ (p.value ++ flat_map spelled ps) = e ∙ flat_map-cons spelled p ps in
    let same_code : code ≡ p.code = cc (whole) in
    let same_len : len ≡ length p.value = cc (whole) in
    let same_more : more ≡ p.value ++ flat_map spelled ps = cc (whole) in
    let value : take len more ≡ p.value = rw (same_more, same_len) (take_at p.value (flat_map spelled ps) (length p.value) refl) in
    let after : drop len more ≡ flat_map spelled ps = rw (same_more, same_len) (drop_at p.value (flat_map spelled ps) (length p.value) refl) in
    (rw (value, same_code) refl, after, omega (arith, same_len, ap length same_more, length-append p.value (flat_map spelled ps)))

none_spelled : (code len : ℕ) (more : List ℕ) → code ∷ len ∷ more ≡ flat_map spelled [] → ⊥
none_spelled code len more e = let long : length (code ∷ len ∷ more) ≡ 0 = ap length e in omega (arith, long)

lone_spelled : (code : ℕ) (ps : List Parameter) → code ∷ [] ≡ flat_map spelled ps → ⊥
lone_spelled code [] e = let long : length (code ∷ []) ≡ 0 = ap length e in omega (arith, long)
lone_spelled code (p ∷ ps) e =
    let long : length (code ∷ []) ≡ length (p.code ∷ length p.value ∷ (p.value ++ flat_map spelled ps)) = ap length (e ∙ flat_map-cons spelled p ps) in omega (arith, long)

short_spelled : (code len : ℕ) (more : List ℕ) → length more < len → (ps : List Parameter) → code ∷ len ∷ more ≡ flat_map spelled ps → ⊥
short_spelled code len more lt [] e = none_spelled code len more e
short_spelled code len more lt (p ∷ ps) e = omega (arith, lt, (parts code len more p ps e).2)

bad_spelled : (code len : ℕ) (more : List ℕ) → ¬ IsAllowed (record { code = code; value = take len more }) → (ps : List Parameter) → AllByRecursion IsAllowed ps → code ∷ len ∷ more ≡ flat_map spelled ps → ⊥
bad_spelled code len more bad [] all e = none_spelled code len more e
bad_spelled code len more bad (p ∷ ps) all e = bad (subst IsAllowed (parts code len more p ps e).0 all.0)

rest_spelled : (code len : ℕ) (more : List ℕ) → ((ps : List Parameter) → AllByRecursion IsAllowed ps → drop len more ≢ flat_map spelled ps) → (ps : List Parameter) → AllByRecursion IsAllowed ps → code ∷ len ∷ more ≡ flat_map spelled ps → ⊥
rest_spelled code len more bad [] all e = none_spelled code len more e
rest_spelled code len more bad (p ∷ ps) all e = bad ps all.1 (parts code len more p ps e).1

-- the first parameter and then what follows it
then_tells : (cr next : Cr) (code len : ℕ) (more : List ℕ) (r : Result Cr TpFault) → len ≤ length more → next ≡ over_one cr (record { code = code; value = take len more }) → IsAllowed (record { code = code; value = take len more })
    → ParametersTell next (drop len more) r → ParametersTell cr (code ∷ len ∷ more) r
then_tells cr next code len more (Ok final) le is allowed (ps, whole, all, says) =
    let p : Parameter = record { code = code; value = take len more } in
    let count : len ≡ length (take len more) = omega (arith, length-take len more) in
    let body : more ≡ take len more ++ flat_map spelled ps = sym (take-append-drop len more) ∙ ap (λ (x : List ℕ). take len more ++ x) whole in
    (p ∷ ps, ap (λ (n : ℕ). code ∷ n ∷ more) count ∙ ap (λ (x : List ℕ). code ∷ length (take len more) ∷ x) body ∙ sym (flat_map-cons spelled p ps), (allowed, all), says ∙ ap (λ (x : Cr). over x ps) is ∙ over_more cr p ps)
then_tells cr next code len more (Err f) le is allowed (same, bad) = (same, rest_spelled code len more bad)

bind_tells : (n : ℕ) (cr : Cr) (code len : ℕ) (more : List ℕ) (r : Result Cr TpFault) → len ≤ length more → ((next : Cr) → ParametersTell next (drop len more) (parameters_at n next (drop len more)))
    → PutTells cr code (take len more) r → ParametersTell cr (code ∷ len ∷ more) (r >>= λ next. parameters_at n next (drop len more))
bind_tells n cr code len more (Ok next) le rest h = then_tells cr next code len more (parameters_at n next (drop len more)) le h.0 h.1 (rest next)
bind_tells n cr code len more (Err f) le rest h = (h.0, bad_spelled code len more h.1)

parameters_tell_at : (n : ℕ) (cr : Cr) (octets : List ℕ) → length octets ≤ n → ParametersTell cr octets (parameters_at n cr octets)
parameters_tell_at zero cr [] le = ([], refl, tt, refl)
parameters_tell_at zero cr (code ∷ more) le = absurd (omega arith)
parameters_tell_at (suc n) cr [] le = ([], refl, tt, refl)
parameters_tell_at (suc n) cr (code ∷ []) le = (refl, λ ps all. lone_spelled code ps)
parameters_tell_at (suc n) cr (code ∷ len ∷ more) le =
    cond_both (ltb (length more) len) (Err Tpdu) (put_at cr code (take len more) >>= λ next. parameters_at n next (drop len more)) (λ r. ParametersTell cr (code ∷ len ∷ more) r)
    (λ e. (refl, λ ps all. short_spelled code len more (ltb-true (length more) len e) ps))
    (λ e. bind_tells n cr code len more (put_at cr code (take len more)) (ltb-false (length more) len e) (λ next. parameters_tell_at n next (drop len more) (omega (arith, length-drop len more))) (put_tells cr code (take len more)))

pub parameters_tell : (cr : Cr) (octets : List ℕ) → ParametersTell cr octets (parameters_of cr octets)
unfolding parameters_of
parameters_tell cr octets = parameters_tell_at (length octets) cr octets (omega arith)

-- octets are one list of parameters
one_list : (ps qs : List Parameter) → flat_map spelled ps ≡ flat_map spelled qs → ps ≡ qs
one_list [] [] e = refl
one_list [] (q ∷ qs) e =
    let long : 0 ≡ length (q.code ∷ length q.value ∷ (q.value ++ flat_map spelled qs)) = ap length (e ∙ flat_map-cons spelled q qs) in absurd (omega (arith, long))
one_list (p ∷ ps) [] e =
    let long : 0 ≡ length (p.code ∷ length p.value ∷ (p.value ++ flat_map spelled ps)) = ap length (sym e ∙ flat_map-cons spelled p ps) in absurd (omega (arith, long))
one_list (p ∷ ps) (q ∷ qs) e =
    let cut = parts p.code (length p.value) (p.value ++ flat_map spelled ps) q qs (sym (flat_map-cons spelled p ps) ∙ e) in
    let value : take (length p.value) (p.value ++ flat_map spelled ps) ≡ p.value = take_at p.value (flat_map spelled ps) (length p.value) refl in
    let after : drop (length p.value) (p.value ++ flat_map spelled ps) ≡ flat_map spelled ps = drop_at p.value (flat_map spelled ps) (length p.value) refl in
    let head : q ≡ p = cut.0 ∙ ap (λ (x : List ℕ). let y : Parameter = record { code = p.code; value = x } in y) value in
    let tail : ps ≡ qs = one_list ps qs (sym after ∙ cut.1) in
    ap (λ (x : Parameter). x ∷ ps) (sym head) ∙ ap (λ (x : List Parameter). q ∷ x) tail

again_by : (cr : Cr) (ps : List Parameter) (r : Result Cr TpFault) → AllByRecursion IsAllowed ps → ParametersTell cr (flat_map spelled ps) r → r ≡ Ok (over cr ps)
again_by cr ps (Ok next) all (qs, e, others, says) = ap (λ (x : Cr). let y : Result Cr TpFault = Ok x in y) (says ∙ ap (λ (x : List Parameter). over cr x) (sym (one_list ps qs e)))
again_by cr ps (Err f) all (same, bad) = absurd (bad ps all refl)

-- parameters that are spelled are read
pub parameters_again : (cr : Cr) (ps : List Parameter) → AllByRecursion IsAllowed ps → parameters_of cr (flat_map spelled ps) ≡ Ok (over cr ps)
parameters_again cr ps all = again_by cr ps (parameters_of cr (flat_map spelled ps)) all (parameters_tell cr (flat_map spelled ps))

broken_by : (cr : Cr) (octets : List ℕ) (r : Result Cr TpFault) → ((ps : List Parameter) → AllByRecursion IsAllowed ps → octets ≢ flat_map spelled ps) → ParametersTell cr octets r → r ≡ Err Tpdu
broken_by cr octets (Ok next) bad (ps, e, all, says) = absurd (bad ps all e)
broken_by cr octets (Err f) bad (same, others) = ap (λ (x : TpFault). let y : Result Cr TpFault = Err x in y) same

-- octets that spell none are refused
pub parameters_refused : (cr : Cr) (octets : List ℕ) → ((ps : List Parameter) → AllByRecursion IsAllowed ps → octets ≢ flat_map spelled ps) → parameters_of cr octets ≡ Err Tpdu
parameters_refused cr octets bad = broken_by cr octets (parameters_of cr octets) bad (parameters_tell cr octets)
