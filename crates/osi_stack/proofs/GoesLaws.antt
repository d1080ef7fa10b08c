-- A stream gives the events of its TPDUs, and the other way round.
use Rattle.std.proofs.Common.{◌≡◌, ℕ, List, [], ◌∷◌, ◌++◌, Option, Some, None, Result, Ok, Err, refl, sym, ap, subst, ◌∙◌, arith}
use Rattle.std.specs.List.{flat_map, AllByRecursion}
use Rattle.std.proofs.lemmas.List.Concat.{flat_map-cons}
use Rattle.list_laws.proofs.Options.{ok_is}
use Rattle.ber_grammar.specs.Octets.{IsBytes}
use Rattle.ber_grammar.specs.Place.{Piece, anywhere}
use Rattle.ber_grammar.specs.Reader.{with_fault}
use Rattle.ber_grammar.proofs.OctetLaws.{IsBytes-rest, IsBytes-front, IsBytes-back, IsBytes-append}
use Rattle.ber_grammar.proofs.ReaderLaws.{bind_ok}
use Rattle.tpkt_cotp.specs.declared.codes.TheConstants.{DT}
use Rattle.tpkt_cotp.specs.declared.fault.TpFault.{TpFault}
use Rattle.tpkt_cotp.specs.declared.state.State.{State}
use Rattle.tpkt_cotp.specs.declared.tsdus.Tsdu.{Tsdu}
use Rattle.tpkt_cotp.specs.declared.tsdus.Tsdu.TheVariants.{Connect, Data, Disconnect}
use Rattle.tpkt_cotp.specs.Packet.{packet}
use Rattle.tpkt_cotp.specs.Tpdu.{IsTaken, tpdu_at}
use Rattle.tpkt_cotp.proofs.TpduLaws.{taken_again}
use Rattle.session_pres.specs.Units.{connect, transfer}
use Rattle.session_pres.specs.Presentation.{Request}
use Rattle.session_pres.proofs.OneWayLaws.{spdu_one, cp_one, ac_one, pdv_one}
use Rattle.acse_apdu.proofs.ApduLaws.{one_aarq, one_aare}
use Rattle.mms_initiate.specs.declared.initiate.Initiate.{Initiate}
use Rattle.mms_initiate.specs.Initiate.{IsInitiate}
use Rattle.mms_initiate.proofs.InitiateLaws.{one_initiate}
use Rattle.osi_stack.specs.declared.caller.Caller.{Caller}
use Rattle.osi_stack.specs.declared.cause.Cause.{Cause}
use Rattle.osi_stack.specs.declared.events.Event.{Event}
use Rattle.osi_stack.specs.declared.phase.Phase.{Phase}
use Rattle.osi_stack.specs.declared.upper.Upper.{Upper}
use Rattle.osi_stack.specs.Causes.{of_transport}
use Rattle.osi_stack.specs.Sides.{StandsFor, CallsFor}
use Rattle.osi_stack.specs.Spelled.{IsRequest, IsResponse, IsData, Tells, TellsGiven, Goes, GoOn, Spells, HasOctets}
use Rattle.osi_stack.specs.Stream.{Stand, called, calling, stand_of, gifts_at, given_at, step_at, Runs, StandsAt}
use Rattle.osi_stack.proofs.ConnectionLaws.{step_is}
use Rattle.osi_stack.proofs.StreamLaws.{one_stream}
use Rattle.osi_stack.proofs.TellsLaws.{tsdu_tells, tsdu_back}
use Rattle.tpkt_cotp.proofs.KeptLaws.{of_packet, step_taken}

-- ---- octets

abbrev GivesOctets : Option Tsdu → Type 0
GivesOctets None = Unit {0}
GivesOctets (Some tsdu) = HasOctets tsdu

behind_nr : (tpdu more : List ℕ) (nr : ℕ) → IsBytes tpdu → tpdu ≡ 2 ∷ DT ∷ nr ∷ more → IsBytes more
behind_nr tpdu more nr fits whole = IsBytes-rest nr more (IsBytes-rest DT (nr ∷ more) (IsBytes-rest 2 (DT ∷ nr ∷ more) (subst IsBytes whole fits)))

open_octets : (t u : State) → t ≡ u → IsBytes u.tsdu → IsBytes t.tsdu
open_octets t u same fits = subst (λ (s : State). IsBytes s.tsdu) (sym same) fits

-- what a TPDU of octets gives are octets, and so is what is held then
pub taken_octets : (s t : State) (tpdu : List ℕ) (given : Option Tsdu) → IsBytes s.tsdu → IsBytes tpdu → IsTaken s tpdu t given → IsBytes t.tsdu × GivesOctets given
taken_octets s t tpdu (Some (Connect cr)) held fits (none, li, rest, whole, is, same) = (open_octets t _ same held, tt)
taken_octets s t tpdu (Some (Data octets)) held fits (there, nr, more, whole, end, is, few, same) =
    (open_octets t _ same (λ i. omega arith), subst IsBytes (sym is) (IsBytes-append s.tsdu more held (behind_nr tpdu more nr fits whole)))
taken_octets s t tpdu (Some Disconnect) held fits (li, code, rest, whole, header, is, same) = (open_octets t s same held, tt)
taken_octets s t tpdu None held fits (there, nr, more, whole, low, few, same) = (open_octets t _ same (IsBytes-append s.tsdu more held (behind_nr tpdu more nr fits whole)), tt)

pub all_octets : (tpdus : List (List ℕ)) → IsBytes (flat_map packet tpdus) → AllByRecursion IsBytes tpdus
all_octets [] fits = tt
all_octets (p ∷ ps) fits =
    let all : IsBytes (packet p ++ flat_map packet ps) = subst IsBytes (flat_map-cons packet p ps) fits in
    (of_packet p (IsBytes-front (packet p) (flat_map packet ps) all), all_octets ps (IsBytes-back (packet p) (flat_map packet ps) all))

-- ---- one TPDU

gift_tells : (phase : Phase) (given : Option Tsdu) (x : Phase × Option Event) → GivesOctets given → gifts_at phase given ≡ Ok x → TellsGiven phase given x
gift_tells phase None x fits h = sym (ok_is {F = Cause} (phase, None) x h)
gift_tells phase (Some tsdu) x fits h = tsdu_tells phase tsdu x fits h

gift_back : (phase : Phase) (given : Option Tsdu) (x : Phase × Option Event) → TellsGiven phase given x → gifts_at phase given ≡ Ok x
gift_back phase None x h = rw h refl
gift_back phase (Some tsdu) x h = tsdu_back phase tsdu x h

abbrev next_of : Stand × Option Event → Phase × Option Event
next_of y = (y.0.phase, y.1)

given_goes : (s t : Stand) (tpdu : List ℕ) (e : Option Event) (u : State) (given : Option Tsdu) → IsBytes s.transport.tsdu → IsBytes tpdu → tpdu_at s.transport tpdu ≡ Ok (u, given) → given_at s.phase (u, given) ≡ Ok (t, e)
    → Goes s tpdu t e × IsBytes t.transport.tsdu
given_goes s t tpdu e u given held fits step h =
    let taken = step_taken s.transport u tpdu given step in
    let octets = taken_octets s.transport u tpdu given held fits taken in
    let b = bind_ok (gifts_at s.phase given) (λ x. let r : Result (Stand × Option Event) Cause = Ok (stand_of u x) in r) (t, e) h in
    let same : stand_of u b.0 ≡ (t, e) = ok_is {F = Cause} (stand_of u b.0) (t, e) b.2 in
    let state : u ≡ t.transport = ap (λ (y : Stand × Option Event). y.0.transport) same in (
      (given, subst (λ (z : State). IsTaken s.transport tpdu z given) state taken, subst (λ (x : Phase × Option Event). TellsGiven s.phase given x) (ap next_of same) (gift_tells s.phase given b.0 octets.1 b.1)),
      subst (λ (z : State). IsBytes z.tsdu) state octets.0,
    )

transport_ok : (r : Result (State × Option Tsdu) TpFault) (y : State × Option Tsdu) → with_fault of_transport r ≡ Ok y → r ≡ Ok y
transport_ok (Ok z) y h = ap (λ (x : State × Option Tsdu). let r : Result (State × Option Tsdu) TpFault = Ok x in r) (ok_is {F = Cause} z y h)
transport_ok (Err f) y h = absurd cc

step_goes : (s t : Stand) (tpdu : List ℕ) (e : Option Event) → IsBytes s.transport.tsdu → IsBytes tpdu → step_at s tpdu ≡ Ok (t, e) → Goes s tpdu t e × IsBytes t.transport.tsdu
unfolding step_at
step_goes s t tpdu e held fits h =
    let a = bind_ok (with_fault of_transport (tpdu_at s.transport tpdu)) (given_at s.phase) (t, e) h in
    given_goes s t tpdu e a.0.0 a.0.1 held fits (transport_ok (tpdu_at s.transport tpdu) a.0 a.1) a.2

goes_step : (s t : Stand) (tpdu : List ℕ) (e : Option Event) → Goes s tpdu t e → step_at s tpdu ≡ Ok (t, e)
goes_step s t tpdu e (given, taken, tells) = step_is s t.transport tpdu given t.phase e (taken_again s.transport t.transport tpdu given taken) (gift_back s.phase given (t.phase, e) tells)

-- ---- a stream

pub runs_go : (s t : Stand) (tpdus : List (List ℕ)) (es : List Event) → IsBytes s.transport.tsdu → AllByRecursion IsBytes tpdus → Runs s tpdus es t → GoOn s tpdus es t
runs_go s t [] es held fits runs = (runs.0, runs.1)
runs_go s t (p ∷ ps) es held fits (on, mid, first, others, step, split, runs) =
    let g = step_goes s mid p first held fits.0 step in
    (on, mid, first, others, g.0, split, runs_go mid t ps others g.1 fits.1 runs)

pub go_runs : (s t : Stand) (tpdus : List (List ℕ)) (es : List Event) → GoOn s tpdus es t → Runs s tpdus es t
go_runs s t [] es go = (go.0, go.1)
go_runs s t (p ∷ ps) es (on, mid, first, others, goes, split, go) = (on, mid, first, others, goes_step s mid p first goes, split, go_runs mid t ps others go)

pub spells : (from t : Stand) (rest octets : List ℕ) (es : List Event) → IsBytes from.transport.tsdu → StandsAt from t rest octets es → Spells from t rest octets es
spells from t rest octets es held a = record {
  fits = a.fits;
  tpdus = a.takes.tpdus;
  whole = a.takes.whole;
  each = a.takes.each;
  go = runs_go from t a.takes.tpdus es held (all_octets a.takes.tpdus (IsBytes-front (flat_map packet a.takes.tpdus) rest (subst IsBytes a.takes.whole a.fits))) a.takes.runs;
  left = a.left;
}

pub stands : (from t : Stand) (rest octets : List ℕ) (es : List Event) → Spells from t rest octets es → StandsAt from t rest octets es
stands from t rest octets es a = record { fits = a.fits; takes = record { tpdus = a.tpdus; whole = a.whole; each = a.each; runs = go_runs from t a.tpdus es a.go }; left = a.left }

pub upper_spells : (u : Upper) (octets : List ℕ) (es : List Event) → StandsFor u octets es → (t : Stand) × (rest : List ℕ) × Spells called t rest octets es
upper_spells u octets es stood = (_, stood.1.rest, spells called _ stood.1.rest octets es (λ i. omega arith) stood.1.at)

pub caller_spells : (x : Caller) (size : ℕ) (octets : List ℕ) (es : List Event) → CallsFor x size octets es → (t : Stand) × (rest : List ℕ) × Spells (calling size) t rest octets es
caller_spells x size octets es stood = (_, stood.1.rest, spells (calling size) _ stood.1.rest octets es (λ i. omega arith) stood.1.at)

-- ---- one thing

pub one_spelled : (from t u : Stand) (rest other octets : List ℕ) (es ds : List Event) → Spells from t rest octets es → Spells from u other octets ds → (es ≡ ds) × (t ≡ u) × (rest ≡ other)
one_spelled from t u rest other octets es ds a b = one_stream from t u rest other octets es ds (stands from t rest octets es a) (stands from u other octets ds b)

pub one_told : (phase : Phase) (tsdu : Tsdu) (x y : Phase × Option Event) → Tells phase tsdu x → Tells phase tsdu y → x ≡ y
one_told phase tsdu x y a b = ok_is {F = Cause} x y (sym (tsdu_back phase tsdu x a) ∙ tsdu_back phase tsdu y b)

connect_is : (a b : Piece) → connect a ≡ connect b → a ≡ b
connect_is a b e = cc

transfer_is : (a b : Piece) → transfer a ≡ transfer b → a ≡ b
transfer_is a b e = cc

pub one_request : (octets : List ℕ) (cp other : Request) (i j : Initiate) → IsRequest octets cp i → IsRequest octets other j → (cp ≡ other) × (i ≡ j)
one_request octets cp other i j a b =
    let user = connect_is a.user b.user ((spdu_one (anywhere octets)).one_value (connect a.user) (connect b.user) a.spdu b.spdu) in
    let same : cp ≡ other = (cp_one b.user).one_value cp other (rw user at a.ppdu) b.ppdu in
    let pdu : a.pdu ≡ b.pdu = one_aarq other.user a.pdu b.pdu (rw same at a.apdu) b.apdu in
    (same, one_initiate 168 b.pdu.octets i j (subst (λ (p : Piece). IsInitiate 168 p.octets i) pdu a.mms.0) b.mms.0)

pub one_response : (octets : List ℕ) (i j : Initiate) → IsResponse octets i → IsResponse octets j → i ≡ j
one_response octets i j a b =
    let user : a.user ≡ b.user = (ac_one (anywhere octets)).one_value a.user b.user a.spdu b.spdu in
    let pdu : a.pdu ≡ b.pdu = one_aare b.user a.pdu b.pdu (rw user at a.apdu) b.apdu in
    one_initiate 169 b.pdu.octets i j (subst (λ (p : Piece). IsInitiate 169 p.octets i) pdu a.mms.0) b.mms.0

pub one_data : (octets : List ℕ) (m n : ℕ) (v w : List ℕ) → IsData octets m v → IsData octets n w → (m ≡ n) × (v ≡ w)
one_data octets m n v w a b =
    let user = transfer_is a.user b.user ((spdu_one (anywhere octets)).one_value (transfer a.user) (transfer b.user) a.spdu b.spdu) in
    let same : (m, a.part) ≡ (n, b.part) = (pdv_one b.user).one_value (m, a.part) (n, b.part) (rw user at a.pdv) b.pdv in
    (ap (λ (x : ℕ × Piece). x.0) same, sym a.is ∙ ap (λ (x : ℕ × Piece). x.1.octets) same ∙ b.is)
