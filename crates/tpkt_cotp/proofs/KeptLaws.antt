-- What an object keeps, and what it gives, has bounds.
use Rattle.std.proofs.Common.{◌≡◌, ℕ, suc, ◌+◌, ◌*◌, ◌≤◌, ◌<◌, Bool, true, false, eqb, List, [], ◌∷◌, ◌++◌, length, Option, Some, None, Ok, refl, sym, ap, subst, ◌∙◌, arith}
use Rattle.std.specs.Prelude.{MatchOption}
use Rattle.std.specs.Option.{option_to_list}
use Rattle.std.specs.List.{flat_map, AllByRecursion}
use Rattle.std.proofs.lemmas.Bool.{eqb-true, cond_both}
use Rattle.std.proofs.lemmas.List.{length-append}
use Rattle.std.proofs.lemmas.List.Concat.{flat_map-cons}
use Rattle.ber_grammar.specs.Reader.{first_of_two}
use Rattle.tpkt_cotp.specs.declared.codes.TheConstants.{TPDU_SIZE, CALLING, CALLED}
use Rattle.tpkt_cotp.specs.declared.state.State.{State}
use Rattle.tpkt_cotp.specs.declared.tsdus.Cr.{Cr}
use Rattle.tpkt_cotp.specs.declared.tsdus.Tsdu.{Tsdu}
use Rattle.tpkt_cotp.specs.declared.tsdus.Tsdu.TheVariants.{Connect, Data, Disconnect}
use Rattle.ber_grammar.specs.Octets.{IsBytes}
use Rattle.ber_grammar.proofs.OctetLaws.{IsBytes-front, IsBytes-back, IsBytes-append}
use Rattle.tpkt_cotp.specs.Packet.{packet, IsPartial}
use Rattle.tpkt_cotp.specs.Parameters.{Parameter, spelled, IsAllowed, last_of, exponent_of, said}
use Rattle.tpkt_cotp.specs.Tpdu.{IsConnection, IsTaken, tpdu_at}
use Rattle.tpkt_cotp.specs.declared.tsdus.Tpkt.{Tpkt}
use Rattle.tpkt_cotp.specs.declared.transport.TransportIn.{TransportIn}
use Rattle.tpkt_cotp.specs.Stream.{start, Runs, StandsAt, IsReady, StepsFrom, gift}
use Rattle.tpkt_cotp.specs.Written.{size_parameter, selector, parameters_for, IsCr, Fits}
use Rattle.tpkt_cotp.proofs.ParameterLaws.{if_code}
use Rattle.tpkt_cotp.proofs.TpduLaws.{TpduTells, tpdu_tells}

-- ---- what a CR says fits a CC

-- a TPDU size that was allowed
abbrev IsSizeValue : Option (List ℕ) → Type 0
IsSizeValue None = Unit {0}
IsSizeValue (Some v) = (e : ℕ) × (v ≡ e ∷ []) × (7 ≤ e)

first_value : (a b : Option (List ℕ)) → IsSizeValue a → IsSizeValue b → IsSizeValue (first_of_two a b)
first_value None b p q = q
first_value (Some v) b p q = p

one_value : (p : Parameter) → IsAllowed p → IsSizeValue (if_code TPDU_SIZE p)
one_value p allowed = cond_both (eqb p.code TPDU_SIZE) (Some p.value) None (λ r. IsSizeValue r) (λ e. allowed (eqb-true p.code TPDU_SIZE e)) (λ e. tt)

last_value : (ps : List Parameter) → AllByRecursion IsAllowed ps → IsSizeValue (last_of TPDU_SIZE ps)
last_value [] all = tt
last_value (p ∷ ps) all = first_value (last_of TPDU_SIZE ps) (if_code TPDU_SIZE p) (last_value ps all.1) (one_value p all.0)

-- how many octets a parameter of this value has
abbrev weight : Option (List ℕ) → ℕ
weight None = 0
weight (Some v) = 2 + length v

size_weight : (o : Option (List ℕ)) → IsSizeValue o → MatchOption (exponent_of o) (Unit {0}) (λ e. (7 ≤ e) × (e ≤ 13)) × (length (size_parameter (exponent_of o)) ≡ weight o)
size_weight None is = (tt, refl)
size_weight (Some v) (e, same, low) = rw same ((omega (arith, low), omega arith), refl)

selector_weight : (code : ℕ) (o : Option (List ℕ)) → length (selector code o) ≡ weight o
selector_weight code None = refl
selector_weight code (Some v) = omega arith

first_weight : (a b : Option (List ℕ)) → weight (first_of_two a b) ≤ weight a + weight b
first_weight None b = omega arith
first_weight (Some v) b = omega arith

abbrev weights : Parameter → ℕ
weights p = weight (if_code TPDU_SIZE p) + weight (if_code CALLED p) + weight (if_code CALLING p)

none_weight : (p : Parameter) (a b : Bool) → eqb p.code TPDU_SIZE ≡ a → eqb p.code CALLED ≡ b → weights p ≤ 2 + length p.value
none_weight p true b e f = let is : p.code ≡ TPDU_SIZE = eqb-true p.code TPDU_SIZE e in rw is (omega arith)
none_weight p false true e f = let is : p.code ≡ CALLED = eqb-true p.code CALLED f in rw is (omega arith)
none_weight p false false e f = rw (e, f) (cond_both (eqb p.code CALLING) (Some p.value) None (λ r. 0 + 0 + weight r ≤ 2 + length p.value) (λ g. omega arith) (λ g. omega arith))

one_weight : (p : Parameter) → weights p ≤ length (spelled p)
one_weight p = omega (arith, none_weight p (eqb p.code TPDU_SIZE) (eqb p.code CALLED) refl refl)

last_weight : (ps : List Parameter) → weight (last_of TPDU_SIZE ps) + weight (last_of CALLED ps) + weight (last_of CALLING ps) ≤ length (flat_map spelled ps)
last_weight [] = omega arith
last_weight (p ∷ ps) =
    let whole : length (flat_map spelled (p ∷ ps)) ≡ length (spelled p) + length (flat_map spelled ps) = ap length (flat_map-cons spelled p ps) ∙ length-append (spelled p) (flat_map spelled ps) in
    omega (
      arith,
      whole,
      one_weight p,
      last_weight ps,
      first_weight (last_of TPDU_SIZE ps) (if_code TPDU_SIZE p),
      first_weight (last_of CALLED ps) (if_code CALLED p),
      first_weight (last_of CALLING ps) (if_code CALLING p),
    )

said_fits : (src : ℕ) (ps : List Parameter) → AllByRecursion IsAllowed ps → length (flat_map spelled ps) ≤ 249 → IsCr (said src ps)
said_fits src ps all few =
    let size = size_weight (last_of TPDU_SIZE ps) (last_value ps all) in
    let one : length (parameters_for (said src ps)) ≡ length (size_parameter (exponent_of (last_of TPDU_SIZE ps))) + (length (selector CALLED (last_of CALLED ps)) + length (selector CALLING (last_of CALLING ps))) =
    length-append (size_parameter (exponent_of (last_of TPDU_SIZE ps))) (selector CALLED (last_of CALLED ps) ++ selector CALLING (last_of CALLING ps))
    ∙ ap (λ (n : ℕ). length (size_parameter (exponent_of (last_of TPDU_SIZE ps))) + n) (length-append (selector CALLED (last_of CALLED ps)) (selector CALLING (last_of CALLING ps))) in
    (size.0, omega (arith, one, size.1, selector_weight CALLED (last_of CALLED ps), selector_weight CALLING (last_of CALLING ps), last_weight ps, few))

-- what a CR or a CC says whose LI is an octet
pub connection_fits : (li : ℕ) (rest : List ℕ) (cr : Cr) → li ≤ 255 → IsConnection li rest cr → IsCr cr
connection_fits li rest cr le is = subst IsCr (sym is.says) (said_fits (is.src_high * 256 + is.src_low) is.parameters is.each (omega (arith, is.header, le)))

-- ---- a run keeps within bounds

given_fits : (s t : State) (tpdu : List ℕ) (e : Option Tsdu) → IsBytes tpdu → IsTaken s tpdu t e → AllByRecursion Fits (option_to_list e)
given_fits s t tpdu (Some (Connect cr)) bytes (none, li, rest, whole, is, to) =
    let low : li < 256 = subst IsBytes whole bytes 0 in
    (connection_fits li rest cr (omega arith) is, tt)
given_fits s t tpdu (Some (Data octets)) bytes (there, nr, more, whole, end, is, count, to) = (count, tt)
given_fits s t tpdu (Some Disconnect) bytes h = (tt, tt)
given_fits s t tpdu None bytes h = tt

taken_few : (s t : State) (tpdu : List ℕ) (e : Option Tsdu) → length s.tsdu ≤ 70000 → IsTaken s tpdu t e → length t.tsdu ≤ 70000
taken_few s t tpdu (Some (Connect cr)) few (none, li, rest, whole, is, to) = rw to few
taken_few s t tpdu (Some (Data octets)) few (there, nr, more, whole, end, is, count, to) = rw to (omega arith)
taken_few s t tpdu (Some Disconnect) few (li, code, rest, whole, header, is, to) = rw to few
taken_few s t tpdu None few (there, nr, more, whole, not_end, count, to) = rw to count

pub step_taken : (s t : State) (tpdu : List ℕ) (e : Option Tsdu) → tpdu_at s tpdu ≡ Ok (t, e) → IsTaken s tpdu t e
step_taken s t tpdu e h = subst (λ r. TpduTells s tpdu r) h (tpdu_tells s tpdu)

pub of_packet : (tpdu : List ℕ) → IsBytes (packet tpdu) → IsBytes tpdu
of_packet tpdu bytes i = bytes (suc (suc (suc (suc i))))

all_both : (xs ys : List Tsdu) → AllByRecursion Fits xs → AllByRecursion Fits ys → AllByRecursion Fits (xs ++ ys)
all_both [] ys p q = q
all_both (x ∷ xs) ys p q = (p.0, all_both xs ys p.1 q)

runs_fit : (s t : State) (tpdus : List (List ℕ)) (es : List Tsdu) → IsBytes (flat_map packet tpdus) → length s.tsdu ≤ 70000 → Runs s tpdus es t → (length t.tsdu ≤ 70000) × AllByRecursion Fits es
runs_fit s t [] es bytes few (none, same) = (rw same few, rw none tt)
runs_fit s t (tpdu ∷ tpdus) es bytes few (mid, first, others, step, split, runs) =
    let all : IsBytes (packet tpdu ++ flat_map packet tpdus) = subst IsBytes (flat_map-cons packet tpdu tpdus) bytes in
    let taken = step_taken s mid tpdu first step in
    let one = given_fits s mid tpdu first (of_packet tpdu (IsBytes-front (packet tpdu) (flat_map packet tpdus) all)) taken in
    let rest = runs_fit mid t tpdus others (IsBytes-back (packet tpdu) (flat_map packet tpdus) all) (taken_few s mid tpdu first few taken) runs in
    (rest.0, rw split (all_both (option_to_list first) others one rest.1))

-- Less than a TPKT is held, and of an open TSDU no more than one may have.
pub kept : (dialled : Bool) (t : State) (rest octets : List ℕ) (es : List Tsdu) → StandsAt dialled t rest octets es → (length rest < 65535) × (length t.tsdu ≤ 70000)
kept dialled t rest octets es a =
    let bytes : IsBytes (flat_map packet a.takes.tpdus) = IsBytes-front (flat_map packet a.takes.tpdus) rest (subst IsBytes a.takes.whole a.fits) in
    (part a.partial, (runs_fit (start dialled) t a.takes.tpdus es bytes (omega arith) a.takes.runs).0)
  where
    part : IsPartial rest → length rest < 65535
    part (tpdu, more, is, some, whole) = omega (arith, is.1, some, ap length whole, length-append rest more)

pub all_fit : (dialled : Bool) (t : State) (rest octets : List ℕ) (es : List Tsdu) → StandsAt dialled t rest octets es → AllByRecursion Fits es
all_fit dialled t rest octets es a =
    let bytes : IsBytes (flat_map packet a.takes.tpdus) = IsBytes-front (flat_map packet a.takes.tpdus) rest (subst IsBytes a.takes.whole a.fits) in
    (runs_fit (start dialled) t a.takes.tpdus es bytes (omega arith) a.takes.runs).1

-- what one step gives
pub step_fits : (t u : TransportIn) (piece rest : List ℕ) (taken : Option Tpkt) → IsBytes piece → IsReady t → StepsFrom t u piece taken rest → AllByRecursion Fits (option_to_list (gift taken))
step_fits t u piece rest None bytes ready h = tt
step_fits t u piece rest (Some taken) bytes ready ((tpdu, front, is, cut, whole, count, step, none), after) =
    let all : IsBytes (t.held ++ front) = IsBytes-append t.held front ready.fits (IsBytes-front front rest (subst IsBytes cut bytes)) in
    given_fits t.state u.state tpdu taken.tsdu (of_packet tpdu (subst IsBytes (sym whole) all)) (step_taken t.state u.state tpdu taken.tsdu step)
