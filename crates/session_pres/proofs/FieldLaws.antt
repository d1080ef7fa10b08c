-- SPDUs that are written are read back.
use Rattle.std.proofs.Common.{◌≡◌, ℕ, ◌+◌, ◌/◌, ◌%◌, ◌<◌, ◌≤◌, cond, eqb, ltb, List, [], ◌∷◌, ◌++◌, length, map, Option, Some, None, refl, sym, ap, subst, ◌∙◌, append_assoc, arith}
use Rattle.std.specs.List.{AllByRecursion}
use Rattle.std.specs.Option.{option_map}
use Rattle.std.proofs.lemmas.Bool.{ltb-true, ltb-false, lt-ltb, le-ltb, cond_both}
use Rattle.list_laws.proofs.Options.{map_some}
use Rattle.ber_grammar.specs.Octets.{IsBytes}
use Rattle.ber_grammar.specs.Place.{Piece}
use Rattle.session_pres.specs.declared.codes.TheConstants.{CONNECT_ACCEPT_ITEM, USER_DATA}
use Rattle.ber_grammar.specs.Reader.{first_of_two}
use Rattle.session_pres.specs.Parameters.{IsLength, Parameter, BeginsWith, AreParameters, IsCut, IsUserOf, last_of}
use Rattle.session_pres.specs.Units.{IsUnit}
use Rattle.session_pres.specs.Written.{length_field, field}

length_field_is : (n : ℕ) → n ≤ 65535 → IsLength (length_field n) n
length_field_is n le =
    cond_both (ltb n 255) (n ∷ []) (255 ∷ n / 256 ∷ n % 256 ∷ []) (λ o. IsLength o n)
    (λ e. (ltb-true n 255 e, refl))
    (λ e. (refl, omega arith, ltb-false n 255 e))

-- a code and a value
abbrev pub Field : Type 0
Field = ℕ × List ℕ

abbrev plain : Parameter → Field
plain p = (p.code, p.value.octets)

abbrev pub fields : List Field → List ℕ
fields [] = []
fields (f ∷ fs) = field f.0 f.1 ++ fields fs

abbrev pub AllFit : List Field → Type 0
AllFit [] = Unit {0}
AllFit (f ∷ fs) = (length f.1 ≤ 65535) × AllFit fs

abbrev pub AllCut : List Field → Type 0
AllCut [] = Unit {0}
AllCut (f ∷ fs) = (f.0 ≡ CONNECT_ACCEPT_ITEM → (inner : List Field) × AllFit inner × (f.1 ≡ fields inner)) × AllCut fs

are_fields : (fs : List Field) (input : Piece) → AllFit fs → input.octets ≡ fields fs → (ps : List Parameter) × AreParameters input ps × (map plain ps ≡ fs)
unfolding field
are_fields [] input h p = ([], p, refl)
are_fields (f ∷ fs) input h p =
    let len = length_field (length f.1) in
    let value : Piece = record { octets = f.1; block = input.block; place = input.place + (length len + 1) } in
    let rest : Piece = record { octets = fields fs; block = input.block; place = input.place + (length len + 1 + length f.1) } in
    let q : Parameter = record { code = f.0; value = value } in
    let b : BeginsWith input q rest = record {
      len = len;
      is_length = length_field_is (length f.1) h.0;
      whole = p ∙ ap (λ (x : List ℕ). f.0 ∷ x) (append_assoc len f.1 (fields fs));
      value = (refl, refl);
      after = (refl, refl);
    } in
    let others = are_fields fs rest h.1 refl in
    (q ∷ others.0, (rest, b, others.1), ap (λ (x : List Field). f ∷ x) others.2)

-- the value of the last field of this code
abbrev pub last_field : ℕ → List Field → Option (List ℕ)
last_field code [] = None
last_field code (f ∷ fs) = first_of_two (last_field code fs) (cond (eqb f.0 code) (Some f.1) None)

octets_first : (a b : Option Piece) → option_map (λ p. p.octets) (first_of_two a b) ≡ first_of_two (option_map (λ p. p.octets) a) (option_map (λ p. p.octets) b)
octets_first (Some x) b = refl
octets_first None b = refl

octets_cond : (p : Parameter) (code : ℕ) → option_map (λ q. q.octets) (cond (eqb p.code code) (Some p.value) None) ≡ cond (eqb p.code code) (Some p.value.octets) None
octets_cond p code = cond_both (eqb p.code code) (Some p.value) None (λ o. option_map (λ q. q.octets) o ≡ cond (eqb p.code code) (Some p.value.octets) None) (λ e. rw e refl) (λ e. rw e refl)

last_plain : (code : ℕ) (ps : List Parameter) → option_map (λ p. p.octets) (last_of code ps) ≡ last_field code (map plain ps)
last_plain code [] = refl
last_plain code (p ∷ ps) = octets_first (last_of code ps) (cond (eqb p.code code) (Some p.value) None) ∙ rw (last_plain code ps, octets_cond p code) refl

cut_all : (ps : List Parameter) → AllCut (map plain ps) → AllByRecursion IsCut ps
cut_all [] h = tt
cut_all (p ∷ ps) h = (λ e. let inner = h.0 e in let are = are_fields inner.0 p.value inner.1 inner.2 in (are.0, are.1), cut_all ps h.1)

-- fields that cut have the user data of their last one of the code 193
pub user_of_fields : (fs : List Field) (input : Piece) (v : List ℕ) → AllFit fs → AllCut fs → input.octets ≡ fields fs → last_field USER_DATA fs ≡ Some v → (user : Piece) × IsUserOf input (Some user) × (user.octets ≡ v)
user_of_fields fs input v fit cut p last =
    let are = are_fields fs input fit p in
    let found = map_some (λ q. q.octets) (last_of USER_DATA are.0) v (last_plain USER_DATA are.0 ∙ ap (last_field USER_DATA) are.2 ∙ last) in
    (found.0, (are.0, are.1, cut_all are.0 (subst AllCut (sym are.2) cut), sym found.1), found.2)

-- an SPDU whose parameters are this body
pub unit_of_field : (code : ℕ) (input : Piece) (body : List ℕ) → length body ≤ 65535 → input.octets ≡ field code body → (parameters : Piece) × IsUnit code input parameters × (parameters.octets ≡ body)
unfolding field
unit_of_field code input body fit p =
    let len = length_field (length body) in
    (record { octets = body; block = input.block; place = input.place + (length len + 1) }, record { len = len; is_length = length_field_is (length body) fit; whole = p; place = (refl, refl) }, refl)

-- a length has one form
pub one_length : (octets : List ℕ) (n : ℕ) → IsBytes octets → IsLength octets n → octets ≡ length_field n
one_length [] n fits h = absurd h
one_length (a ∷ []) n fits h = rw (h.1, lt-ltb a 255 h.0) refl
one_length (a ∷ b ∷ []) n fits h = absurd h
one_length (a ∷ b ∷ c ∷ []) n fits h =
    let low : c < 256 = fits 2 in
    let high : n / 256 ≡ b = omega (arith, h.1) in
    let rest : n % 256 ≡ c = omega (arith, h.1) in
    rw (h.0, le-ltb n 255 h.2, high, rest) refl
one_length (a ∷ b ∷ c ∷ d ∷ more) n fits h = absurd h
