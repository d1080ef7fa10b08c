-- What one side frames the other side gives as that PDU.
use Rattle.std.proofs.Common.{◌≡◌, ℕ, ◌+◌, ◌^◌, ◌<◌, ◌≤◌, inl, true, false, List, [], ◌∷◌, ◌++◌, length, Option, Some, None, Result, Ok, Err, refl, sym, ap, subst, ◌∙◌, arith}
use Rattle.std.proofs.lemmas.Bool.{eq-eqb}
use Rattle.ber_grammar.specs.Place.{Piece}
use Rattle.ber_grammar.specs.Reader.{◌>>=◌, Gives}
use Rattle.tpkt_cotp.specs.declared.state.State.{State}
use Rattle.tpkt_cotp.specs.declared.tsdus.Tsdu.{Tsdu}
use Rattle.tpkt_cotp.specs.declared.tsdus.Tsdu.TheVariants.{Data}
use Rattle.ber_grammar.specs.Octets.{IsBytes}
use Rattle.tpkt_cotp.specs.Stream.{Runs as TransportRuns}
use Rattle.tpkt_cotp.specs.Written.{IsExponent}
use Rattle.tpkt_cotp.proofs.ReadBackLaws.{tsdu_takes}
use Rattle.tpkt_cotp.proofs.WrittenOctetLaws.{tsdu_octets}
use Rattle.session_pres.proofs.WrittenOctetLaws.{data_octets}
use Rattle.ber_grammar.proofs.OctetLaws.{IsBytes-append}
use Rattle.tpkt_cotp.proofs.StreamLaws.{partial_none}
use Rattle.session_pres.specs.declared.codes.TheConstants.{DISCONNECT}
use Rattle.session_pres.specs.declared.fault.SpFault.{SpFault}
use Rattle.session_pres.specs.declared.fault.SpFault.TheVariants as session
use Rattle.ber_grammar.specs.Steps.{required}
use Rattle.session_pres.specs.Units.{Seen, IsSpdu, begins, transfer}
use Rattle.session_pres.specs.UnitReading.{spdu_at}
use Rattle.session_pres.specs.UserData.{user_data_at}
use Rattle.ber_grammar.specs.Place.{anywhere}
use Rattle.session_pres.specs.Plain.{told, transfers, pdv_octets, spdu_from, pdv_from}
use Rattle.session_pres.specs.Written.{IsOneElement, pdv_list, data_spdu}
use Rattle.session_pres.proofs.AnywhereLaws.{pdv_anywhere}
use Rattle.session_pres.proofs.FitLaws.{user_few}
use Rattle.session_pres.proofs.ReadBackLaws.{data_back}
use Rattle.session_pres.proofs.UnitLaws.{spdu_exact}
use Rattle.session_pres.proofs.UserDataLaws.{user_data_again}
use Rattle.osi_stack.specs.declared.cause.Cause.{Cause}
use Rattle.osi_stack.specs.declared.events.Event.{Event}
use Rattle.osi_stack.specs.declared.events.Event.TheVariants.{Pdu}
use Rattle.osi_stack.specs.declared.events.Line.{Line}
use Rattle.osi_stack.specs.declared.phase.Phase.{Phase}
use Rattle.osi_stack.specs.declared.phase.Phase.TheVariants.{Idle, Called, Open, Calling, Asking, Joined, Ended}
use Rattle.osi_stack.specs.Called.{in_context, pdu_in, open_at}
use Rattle.osi_stack.specs.Calling.{joined_at}
use Rattle.osi_stack.specs.Framed.{framed}
use Rattle.osi_stack.specs.Machine.{data_at, tsdu_at}
use Rattle.osi_stack.specs.Open.{IsInUse, IsOpenFor}
use Rattle.osi_stack.specs.Stream.{Stand, has_ended, Runs, Takes, StandsAt, IsRefused}
use Rattle.osi_stack.proofs.ConnectionLaws.{step_is, Takes-then}
use Rattle.osi_stack.proofs.FitLaws.{pdv_fits}
use Rattle.osi_stack.proofs.StreamLaws.{one_stream, never_both}

-- ---- what the transport gives, taken by a phase that stays

abbrev at : State → Phase → Stand
at t phase = record { transport = t; phase = phase }

abbrev Each : Phase → List Tsdu → List Event → Type 0
Each phase [] [] = Unit {0}
Each phase [] (e ∷ es) = ⊥
Each phase (x ∷ xs) [] = ⊥
Each phase (x ∷ xs) (e ∷ es) = (tsdu_at phase x ≡ Ok (phase, Some e)) × Each phase xs es

none_each : (phase : Phase) (es : List Event) → Each phase [] es → es ≡ []
none_each phase [] h = refl
none_each phase (e ∷ es) h = absurd h

runs_with : (phase : Phase) (t u : State) (tpdus : List (List ℕ)) (given : List Tsdu) (es : List Event) → has_ended phase ≡ false → TransportRuns t tpdus given u → Each phase given es → Runs (at t phase) tpdus es (at u phase)
runs_with phase t u [] given es on (none, same) each = (none_each phase es (subst (λ (x : List Tsdu). Each phase x es) none each), ap (λ (x : State). at x phase) same)
runs_with phase t u (p ∷ ps) given es on (mid, None, others, step, split, runs) each =
    (on, at mid phase, None, es, step_is (at t phase) mid p None phase None step refl, refl, runs_with phase mid u ps others es on runs (subst (λ (x : List Tsdu). Each phase x es) split each))
runs_with phase t u (p ∷ ps) given [] on (mid, Some x, others, step, split, runs) each = let h : Each phase (x ∷ others) [] = subst (λ (y : List Tsdu). Each phase y []) split each in absurd h
runs_with phase t u (p ∷ ps) given (e ∷ es) on (mid, Some x, others, step, split, runs) each =
    let h : Each phase (x ∷ others) (e ∷ es) = subst (λ (y : List Tsdu). Each phase y (e ∷ es)) split each in
    (on, at mid phase, Some e, es, step_is (at t phase) mid p (Some x) phase (Some e) step h.0, refl, runs_with phase mid u ps others es on runs h.1)

-- ---- a PDU of MMS in a TSDU

spdu_is : (input : List ℕ) (user : Piece) → IsSpdu (anywhere input) (transfer user) → spdu_from input ≡ Ok (transfers user.octets)
unfolding spdu_from
spdu_is input user is = spelled (spdu_at (anywhere input)) ((spdu_exact (anywhere input)).only (transfer user) is)
  where
    spelled : (r : Result Seen SpFault) → Gives (λ y. y) r (Ok (transfer user)) → (r >>= λ spdu. Ok (told spdu)) ≡ Ok (transfers user.octets)
    spelled (Ok y) h = let is : transfer user ≡ y = cc (h) in rw (sym is) refl
    spelled (Err f) h = absurd cc

pdv_is : (user value : Piece) (context : ℕ) → user_data_at user ≡ Some (context, value) → pdv_from user.octets ≡ Ok (context, value.octets)
pdv_is user value context h = sym (pdv_anywhere user) ∙ ap (λ (o : Option (ℕ × Piece)). required session.Pdv o >>= λ pdv. Ok (pdv_octets pdv)) h

pdu_is : (phase : Phase) (line : Line) (user value : Piece) → user_data_at user ≡ Some (line.context, value) → pdu_in phase line user.octets ≡ Ok (phase, Some (Pdu value.octets))
unfolding pdu_in in_context
pdu_is phase line user value h = rw (pdv_is user value line.context h, eq-eqb line.context line.context refl) refl

begins_data : (context : ℕ) (pdu : List ℕ) → begins DISCONNECT (data_spdu context pdu) ≡ false
unfolding data_spdu
begins_data context pdu = refl

pdu_taken : (phase : Phase) (context : ℕ) (pdu : List ℕ) → IsInUse phase context → context < 2 ^ 32 → IsOneElement pdu → length (pdv_list context pdu) < 2 ^ 32 → data_at phase (data_spdu context pdu) ≡ Ok (phase, Some (Pdu pdu))
unfolding data_at open_at joined_at
pdu_taken (Open line acse) context pdu used small one fits =
    let back = data_back (anywhere (data_spdu context pdu)) context pdu small one fits refl in
    rw (spdu_is (data_spdu context pdu) back.0 back.2) (pdu_is (Open line acse) line back.0 back.1 (rw used (user_data_again back.0 (context, back.1) back.3)) ∙ rw (back.4) refl)
pdu_taken (Joined line) context pdu used small one fits =
    let back = data_back (anywhere (data_spdu context pdu)) context pdu small one fits refl in
    rw (begins_data context pdu, spdu_is (data_spdu context pdu) back.0 back.2) (pdu_is (Joined line) line back.0 back.1 (rw used (user_data_again back.0 (context, back.1) back.3)) ∙ rw (back.4) refl)
pdu_taken Idle context pdu used small one fits = absurd used
pdu_taken (Called exponent) context pdu used small one fits = absurd used
pdu_taken (Calling size) context pdu used small one fits = absurd used
pdu_taken (Asking exponent size) context pdu used small one fits = absurd used
pdu_taken Ended context pdu used small one fits = absurd used

in_use : (phase : Phase) (context : ℕ) → IsInUse phase context → has_ended phase ≡ false
in_use (Open line acse) context used = refl
in_use (Joined line) context used = refl
in_use Idle context used = absurd used
in_use (Called exponent) context used = absurd used
in_use (Calling size) context used = absurd used
in_use (Asking exponent size) context used = absurd used
in_use Ended context used = absurd used

data_few : (context : ℕ) (pdu : List ℕ) → length (data_spdu context pdu) ≤ 40 + length pdu
unfolding data_spdu
data_few context pdu = omega (arith, user_few context pdu)

data_is : (phase : Phase) (octets : List ℕ) (r : Result (Phase × Option Event) Cause) → data_at phase octets ≡ r → tsdu_at phase (Data octets) ≡ r
unfolding tsdu_at
data_is phase octets r h = h

-- ---- on a stream

abbrev open_state : State → State
open_state s = record { dialled = s.dialled; connected = true; tsdu = [] }

frame_takes : (s : Stand) (line : Line) (pdu : List ℕ) → IsExponent line.exponent → line.context < 2 ^ 32 → IsOneElement pdu → length pdu ≤ 65000 → IsOpenFor s line.context → Takes s (framed line pdu) (Pdu pdu ∷ []) (at (open_state s.transport) s.phase) []
frame_takes s line pdu exponent small one few (on, none, used) =
    let spdu : List ℕ = data_spdu line.context pdu in
    let whole : s.transport.tsdu ++ spdu ≡ spdu = ap (λ (x : List ℕ). x ++ spdu) none in
    let takes = tsdu_takes line.exponent spdu s.transport exponent on (subst (λ (x : List ℕ). length x ≤ 70000) (sym whole) (omega (arith, data_few line.context pdu, few))) in
    let taken = pdu_taken s.phase line.context pdu used small one (pdv_fits line.context pdu (omega (arith, few))) in
    let each : Each s.phase (Data (s.transport.tsdu ++ spdu) ∷ []) (Pdu pdu ∷ []) = (data_is s.phase (s.transport.tsdu ++ spdu) (Ok (s.phase, Some (Pdu pdu))) (ap (λ (x : List ℕ). data_at s.phase x) whole ∙ taken), tt) in
    record { tpdus = takes.tpdus; whole = takes.whole; each = takes.each; runs = runs_with s.phase s.transport (open_state s.transport) takes.tpdus (Data (s.transport.tsdu ++ spdu) ∷ []) (Pdu pdu ∷ []) (in_use s.phase line.context used) takes.runs each }

framed_stands : (from t : Stand) (before pdu : List ℕ) (line : Line) (es : List Event) → IsBytes (before ++ framed line pdu) → IsExponent line.exponent → line.context < 2 ^ 32 → IsOneElement pdu → length pdu ≤ 65000 → StandsAt from t [] before es → IsOpenFor t line.context
    → StandsAt from (at (open_state t.transport) t.phase) [] (before ++ framed line pdu) (es ++ Pdu pdu ∷ [])
framed_stands from t before pdu line es fits exponent small one few stood there = record {
  fits = fits;
  takes = Takes-then from t (at (open_state t.transport) t.phase) before (framed line pdu) [] [] es (Pdu pdu ∷ []) stood.takes (frame_takes t line pdu exponent small one few there);
  left = inl (in_use t.phase line.context there.2, partial_none);
}

-- what is framed are octets
framed_octets : (line : Line) (pdu : List ℕ) → IsBytes pdu → IsExponent line.exponent → length pdu ≤ 65000 → IsBytes (framed line pdu)
framed_octets line pdu fits exponent few = tsdu_octets line.exponent (data_spdu line.context pdu) exponent (data_octets line.context pdu (pdv_fits line.context pdu (omega (arith, few))) fits)

pub framed_taken : (from t : Stand) (before pdu : List ℕ) (line : Line) (es : List Event) → IsBytes pdu → IsExponent line.exponent → line.context < 2 ^ 32 → IsOneElement pdu → length pdu ≤ 65000 → StandsAt from t [] before es → IsOpenFor t line.context
    → (u : Stand) × StandsAt from u [] (before ++ framed line pdu) (es ++ Pdu pdu ∷ []) × IsOpenFor u line.context
framed_taken from t before pdu line es fits exponent small one few stood there =
    (at (open_state t.transport) t.phase, framed_stands from t before pdu line es (IsBytes-append before (framed line pdu) stood.fits (framed_octets line pdu fits exponent few)) exponent small one few stood there, (refl, refl, there.2))

pub framed_read : (from t u : Stand) (rest before pdu : List ℕ) (line : Line) (es ds : List Event) → IsExponent line.exponent → line.context < 2 ^ 32 → IsOneElement pdu → length pdu ≤ 65000 → StandsAt from t [] before es → IsOpenFor t line.context
    → StandsAt from u rest (before ++ framed line pdu) ds → (ds ≡ es ++ Pdu pdu ∷ []) × (rest ≡ []) × IsOpenFor u line.context
framed_read from t u rest before pdu line es ds exponent small one few stood there now =
    let same = one_stream from u (at (open_state t.transport) t.phase) rest [] (before ++ framed line pdu) ds (es ++ Pdu pdu ∷ []) now (framed_stands from t before pdu line es now.fits exponent small one few stood there) in
    (same.0, same.2, subst (λ (x : Stand). IsOpenFor x line.context) (sym same.1) (refl, refl, there.2))

pub framed_never : (from t : Stand) (before pdu : List ℕ) (line : Line) (es ds : List Event) (c : Cause) (n : ℕ) → IsExponent line.exponent → line.context < 2 ^ 32 → IsOneElement pdu → length pdu ≤ 65000 → StandsAt from t [] before es → IsOpenFor t line.context
    → IsRefused from (before ++ framed line pdu) ds c n → ⊥
framed_never from t before pdu line es ds c n exponent small one few stood there bad =
    never_both from (at (open_state t.transport) t.phase) [] (before ++ framed line pdu) (es ++ Pdu pdu ∷ []) ds c n (framed_stands from t before pdu line es bad.fits exponent small one few stood there) bad
