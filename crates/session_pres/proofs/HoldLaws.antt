-- The parts of octets that are read are octets.
use Rattle.std.proofs.Common.{◌≡◌, ℕ, cond, eqb, inl, inr, List, [], ◌∷◌, ◌++◌, Some, None, sym, ap, subst, ◌∙◌}
use Rattle.list_laws.proofs.Options.{some_is, chosen}
use Rattle.ber_grammar.specs.Octets.{IsBytes}
use Rattle.ber_grammar.specs.Place.{Spot, Piece}
use Rattle.ber_grammar.proofs.OctetLaws.{IsBytes-rest, IsBytes-front, IsBytes-back}
use Rattle.ber_grammar.proofs.FieldLaws.{HoldOctets, first_with-found, fields-hold, first-holds, only-holds}
use Rattle.session_pres.specs.declared.codes.TheConstants.{ACCEPT, USER_DATA, NORMAL_MODE_PARAMETERS, FULLY_ENCODED_DATA, SEQUENCE, SET}
use Rattle.session_pres.specs.Parameters.{Parameter, AreParameters, last_of}
use Rattle.session_pres.specs.Units.{HasData}
use Rattle.session_pres.specs.UserData.{IsPdv, IsPdvList}
use Rattle.session_pres.specs.Presentation.{HasParameters, IsUser, Request, IsCp, IsAc}
use Rattle.session_pres.proofs.AnswerLaws.{first_is}

-- ---- SPDUs

value_holds : (input : Piece) (ps : List Parameter) (v : Piece) → IsBytes input.octets → AreParameters input ps → last_of USER_DATA ps ≡ Some v → IsBytes v.octets
value_holds input [] v fits are h = absurd cc
value_holds input (p ∷ ps) v fits (rest, begun, are) h =
    let behind : IsBytes (p.value.octets ++ rest.octets) = IsBytes-back begun.len (p.value.octets ++ rest.octets) (IsBytes-rest p.code (begun.len ++ (p.value.octets ++ rest.octets)) (subst IsBytes begun.whole fits)) in
    elim (first_is (last_of USER_DATA ps) (cond (eqb p.code USER_DATA) (Some p.value) None) v h) [
      | inl later ↦ value_holds rest ps v (IsBytes-back p.value.octets rest.octets behind) are later
      | inr here ↦ subst (λ (x : Piece). IsBytes x.octets) (some_is p.value v (chosen (eqb p.code USER_DATA) (Some p.value) v here).1) (IsBytes-front p.value.octets rest.octets behind)
    ]

pub data_holds : (code : ℕ) (input user : Piece) → IsBytes input.octets → HasData code input user → IsBytes user.octets
data_holds code input user fits (given, (parameters, unit, (ps, are, cut, last)), is) =
    value_holds parameters ps user (IsBytes-back unit.len parameters.octets (IsBytes-rest code (unit.len ++ parameters.octets) (subst IsBytes unit.whole fits))) are (sym last ∙ is)

-- ---- PPDUs

parameters_hold : (input parameters : Piece) → IsBytes input.octets → HasParameters input parameters → IsBytes parameters.octets
parameters_hold input parameters fits (content, only, (set, are, (mode, normal, is))) =
    first-holds NORMAL_MODE_PARAMETERS set parameters (fields-hold content set (only-holds SET input content fits only) are) (first_with-found NORMAL_MODE_PARAMETERS set parameters is)

pdv_holds : (fields : List Spot) (pdv : ℕ × Piece) → HoldOctets fields → IsPdv fields pdv → IsBytes pdv.1.octets
pdv_holds [] pdv fits h = absurd h
pdv_holds (a ∷ []) pdv fits h = absurd h
pdv_holds (a ∷ b ∷ []) pdv fits (ta, n, tb, is, s, are) = subst IsBytes (sym (ap (λ (p : Piece). p.octets) is)) fits.1.0
pdv_holds (a ∷ b ∷ c ∷ []) pdv fits (syntax, (tb, n, tc, is, s, are)) = subst IsBytes (sym (ap (λ (p : Piece). p.octets) is)) fits.1.1.0
pdv_holds (a ∷ b ∷ c ∷ d ∷ more) pdv fits h = absurd h

list_holds : (values : Piece) (pdv : ℕ × Piece) → IsBytes values.octets → IsPdvList values pdv → IsBytes pdv.1.octets
list_holds values pdv fits (value, only, fields, are, is) = pdv_holds fields pdv (fields-hold value fields (only-holds SEQUENCE values value fits only) are) is

user_holds : (fields : List Spot) (number : ℕ) (user : Piece) → HoldOctets fields → IsUser fields number user → IsBytes user.octets
user_holds fields number user fits (values, at, is) = list_holds values (number, user) (first-holds FULLY_ENCODED_DATA fields values fits (first_with-found FULLY_ENCODED_DATA fields values at)) is

pub cp_holds : (input : Piece) (cp : Request) → IsBytes input.octets → IsCp input cp → IsBytes cp.user.octets
cp_holds input cp fits (parameters, has, (fields, are, (content, is, (contexts, list, (a, chosen_a, (m, chosen_m, (user, has_user, same))))))) =
    subst IsBytes (sym (ap (λ (r : Request). r.user.octets) same)) (user_holds fields a.number user (fields-hold parameters fields (parameters_hold input parameters fits has) are) has_user)

pub ac_holds : (input user : Piece) → IsBytes input.octets → IsAc input user → IsBytes user.octets
ac_holds input user fits (cpa, data_of, (parameters, has, (fields, are, (content, is, (results, row, (a, first, (m, second, has_user))))))) =
    user_holds fields 1 user (fields-hold parameters fields (parameters_hold cpa parameters (data_holds ACCEPT input cpa fits data_of) has) are) has_user
