-- What a TSDU says is what it spells, and the other way round.
use Rattle.std.proofs.Common.{◌≡◌, ℕ, inl, inr, Bool, true, false, cond, eqb, List, Option, Some, None, Result, Ok, Err, refl, sym, ap, subst}
use Rattle.std.specs.Option.{option_map}
use Rattle.std.proofs.lemmas.Bool.{eqb-true, eq-eqb}
use Rattle.list_laws.proofs.Options.{ok_is}
use Rattle.ber_grammar.specs.Octets.{IsBytes}
use Rattle.ber_grammar.specs.Place.{Piece, anywhere}
use Rattle.ber_grammar.specs.Reader.{◌>>=◌, with_fault}
use Rattle.ber_grammar.proofs.ReaderLaws.{bind_ok}
use Rattle.tpkt_cotp.specs.declared.tsdus.Tsdu.{Tsdu}
use Rattle.tpkt_cotp.specs.declared.tsdus.Tsdu.TheVariants.{Connect, Data, Disconnect}
use Rattle.session_pres.specs.declared.codes.TheConstants.{CONNECT, DISCONNECT}
use Rattle.session_pres.specs.declared.fault.SpFault.TheVariants as session
use Rattle.session_pres.specs.Units.{Seen, HasUser, IsSpdu, connect, transfer, finish, abort, begins}
use Rattle.session_pres.specs.UserData.{IsUserData}
use Rattle.session_pres.specs.Presentation.{Request}
use Rattle.session_pres.specs.Plain.{Told, told, Asked, asked, octets as bare, spdu_from, cp_from, ac_from, dn_from, pdv_from}
use Rattle.session_pres.proofs.HoldLaws.{data_holds, cp_holds, ac_holds}
use Rattle.acse_apdu.specs.declared.codes.TheConstants.{RLRQ, RLRE}
use Rattle.acse_apdu.specs.Reading.{pdu_of_aarq, pdu_of_aare, rlrq_of, rlre_of}
use Rattle.acse_apdu.proofs.ApduLaws.{aarq_holds, aare_holds}
use Rattle.mms_initiate.specs.declared.initiate.Initiate.{Initiate}
use Rattle.mms_initiate.specs.InitiateReading.{initiate_at}
use Rattle.mms_initiate.proofs.InitiateLaws.{accepted_again}
use Rattle.osi_stack.specs.declared.cause.Cause.{Cause}
use Rattle.osi_stack.specs.declared.events.Event.{Event}
use Rattle.osi_stack.specs.declared.events.Event.TheVariants.{Pdu, Aborted}
use Rattle.osi_stack.specs.declared.events.Line.{Line}
use Rattle.osi_stack.specs.declared.phase.Phase.{Phase}
use Rattle.osi_stack.specs.declared.phase.Phase.TheVariants.{Idle, Called, Open, Calling, Asking, Joined, Ended}
use Rattle.osi_stack.specs.Causes.{of_session, of_association, of_initiate}
use Rattle.osi_stack.specs.Called.{Outcome, accepted, request_at, first_spdu, called_at, in_context, released, finish_at, pdu_in, next_spdu, open_at}
use Rattle.osi_stack.specs.Calling.{joined, asking_at, ended, end_at, served_spdu, joined_at}
use Rattle.osi_stack.specs.Machine.{connect_at, data_at, tsdu_at}
use Rattle.osi_stack.specs.Spelled.{IsRequest, IsResponse, IsData, HasRelease, IsFinish, IsDisconnect, IsAbort, TellsPdu, TellsData, Tells, HasOctets}
use Rattle.osi_stack.proofs.SpelledLaws.{unfaulted, spdu_found, spdu_back, cp_found, cp_back, ac_found, ac_back, dn_found, dn_back, pdv_found, pdv_back, aarq_found, aarq_back, aare_found, aare_back, rlrq_found, rlrq_back, rlre_found, rlre_back, initiate_found}

-- ---- a CONNECT

abbrev made : ℕ → Asked → List ℕ → Outcome
made exponent cp pdu = with_fault of_initiate (initiate_at 168 pdu) >>= λ i. Ok (accepted exponent cp i)

abbrev asks : ℕ → Asked → Outcome
asks exponent cp = with_fault of_association (pdu_of_aarq cp.user) >>= λ pdu. made exponent cp pdu

request_tells : (exponent : ℕ) (octets : List ℕ) (user : Piece) (x : Phase × Option Event) → IsBytes user.octets → IsSpdu (anywhere octets) (connect user) → request_at exponent user.octets ≡ Ok x → TellsData (Called exponent) octets x
unfolding request_at
request_tells exponent octets user x fits spdu h =
    let a = bind_ok (with_fault of_session (cp_from user.octets)) (asks exponent) x h in
    let cp = cp_found user a.0 (unfaulted of_session (cp_from user.octets) a.0 a.1) in
    let b = bind_ok (with_fault of_association (pdu_of_aarq cp.0.user.octets)) (made exponent (asked cp.0)) x (subst (λ (c : Asked). asks exponent c ≡ Ok x) cp.2 a.2) in
    let bytes = cp_holds user cp.0 fits cp.1 in
    let pdu = aarq_found cp.0.user b.0 bytes (unfaulted of_association (pdu_of_aarq cp.0.user.octets) b.0 b.1) in
    let c = bind_ok (with_fault of_initiate (initiate_at 168 pdu.0.octets)) (λ i. Ok (accepted exponent (asked cp.0) i)) x (subst (λ (p : List ℕ). made exponent (asked cp.0) p ≡ Ok x) pdu.2 b.2) in
    let i = initiate_found 168 pdu.0.octets c.0 (aarq_holds cp.0.user pdu.0 bytes pdu.1) (unfaulted of_initiate (initiate_at 168 pdu.0.octets) c.0 c.1) in
    (cp.0, c.0, record { user = user; spdu = spdu; ppdu = cp.1; pdu = pdu.0; apdu = pdu.1; mms = i }, sym (ok_is {F = Cause} (accepted exponent (asked cp.0) c.0) x c.2))

first_tells : (exponent : ℕ) (octets : List ℕ) (s : Seen) (x : Phase × Option Event) → IsBytes octets → IsSpdu (anywhere octets) s → first_spdu exponent (told s) ≡ Ok x → TellsData (Called exponent) octets x
first_tells exponent octets (connect user) x fits is h = request_tells exponent octets user x (data_holds CONNECT (anywhere octets) user fits is) is h
first_tells exponent octets (transfer user) x fits is h = absurd cc
first_tells exponent octets (finish user) x fits is h = absurd cc
first_tells exponent octets abort x fits is h = absurd cc

called_tells : (exponent : ℕ) (octets : List ℕ) (x : Phase × Option Event) → IsBytes octets → called_at exponent octets ≡ Ok x → TellsData (Called exponent) octets x
unfolding called_at
called_tells exponent octets x fits h =
    let a = bind_ok (with_fault of_session (spdu_from octets)) (first_spdu exponent) x h in
    let s = spdu_found octets a.0 (unfaulted of_session (spdu_from octets) a.0 a.1) in
    first_tells exponent octets s.0 x fits s.1 (subst (λ (t : Told). first_spdu exponent t ≡ Ok x) s.2 a.2)

request_back : (exponent : ℕ) (octets : List ℕ) (cp : Request) (i : Initiate) → IsRequest octets cp i → called_at exponent octets ≡ Ok (accepted exponent (asked cp) i)
unfolding called_at request_at
request_back exponent octets cp i r = rw (spdu_back octets (connect r.user) r.spdu, cp_back r.user cp r.ppdu, aarq_back cp.user r.pdu r.apdu, accepted_again 168 r.pdu.octets i r.mms) refl

-- ---- an ACCEPT

abbrev joins : ℕ → ℕ → List ℕ → Outcome
joins exponent size pdu = with_fault of_initiate (initiate_at 169 pdu) >>= λ i. Ok (joined exponent size i)

abbrev answers : ℕ → ℕ → List ℕ → Outcome
answers exponent size apdu = with_fault of_association (pdu_of_aare apdu) >>= λ pdu. joins exponent size pdu

asking_tells : (exponent size : ℕ) (octets : List ℕ) (x : Phase × Option Event) → IsBytes octets → asking_at exponent size octets ≡ Ok x → TellsData (Asking exponent size) octets x
unfolding asking_at
asking_tells exponent size octets x fits h =
    let a = bind_ok (with_fault of_session (ac_from octets)) (answers exponent size) x h in
    let user = ac_found octets a.0 (unfaulted of_session (ac_from octets) a.0 a.1) in
    let b = bind_ok (with_fault of_association (pdu_of_aare user.0.octets)) (joins exponent size) x (subst (λ (c : List ℕ). answers exponent size c ≡ Ok x) user.2 a.2) in
    let bytes = ac_holds (anywhere octets) user.0 fits user.1 in
    let pdu = aare_found user.0 b.0 bytes (unfaulted of_association (pdu_of_aare user.0.octets) b.0 b.1) in
    let c = bind_ok (with_fault of_initiate (initiate_at 169 pdu.0.octets)) (λ i. Ok (joined exponent size i)) x (subst (λ (p : List ℕ). joins exponent size p ≡ Ok x) pdu.2 b.2) in
    let i = initiate_found 169 pdu.0.octets c.0 (aare_holds user.0 pdu.0 bytes pdu.1) (unfaulted of_initiate (initiate_at 169 pdu.0.octets) c.0 c.1) in
    (c.0, record { user = user.0; spdu = user.1; pdu = pdu.0; apdu = pdu.1; mms = i }, sym (ok_is {F = Cause} (joined exponent size c.0) x c.2))

response_back : (exponent size : ℕ) (octets : List ℕ) (i : Initiate) → IsResponse octets i → asking_at exponent size octets ≡ Ok (joined exponent size i)
unfolding asking_at
response_back exponent size octets i r = rw (ac_back octets r.user r.spdu, aare_back r.user r.pdu r.apdu, accepted_again 169 r.pdu.octets i r.mms) refl

-- ---- user data in a context

chosen_ok : (b : Bool) (y v : List ℕ) (c : Cause) → (let r : Result (List ℕ) Cause = cond b (Ok y) (Err c) in r) ≡ Ok v → (b ≡ true) × (y ≡ v)
chosen_ok true y v c h = (refl, ok_is {F = Cause} y v h)
chosen_ok false y v c h = absurd cc

abbrev pub if_in : ℕ → ℕ × List ℕ → Result (List ℕ) Cause
if_in context pdv = cond (eqb pdv.0 context) (Ok pdv.1) (Err (of_session session.Pdv))

context_is : (context : ℕ) (user : Piece) (v : List ℕ) (pdv : ℕ × Piece) → IsUserData user pdv → if_in context (pdv.0, pdv.1.octets) ≡ Ok v → (value : Piece) × IsUserData user (context, value) × (v ≡ value.octets)
context_is context user v (n, value) is h =
    let c = chosen_ok (eqb n context) value.octets v (of_session session.Pdv) h in
    (value, subst (λ (k : ℕ). IsUserData user (k, value)) (eqb-true n context c.0) is, sym c.1)

pub context_found : (context : ℕ) (user : Piece) (v : List ℕ) → in_context context user.octets ≡ Ok v → (value : Piece) × IsUserData user (context, value) × (v ≡ value.octets)
unfolding in_context
context_found context user v h =
    let a = bind_ok (with_fault of_session (pdv_from user.octets)) (if_in context) v h in
    let p = pdv_found user a.0 (unfaulted of_session (pdv_from user.octets) a.0 a.1) in
    context_is context user v p.0 p.1 (subst (λ (y : ℕ × List ℕ). if_in context y ≡ Ok v) p.2 a.2)

pub context_back : (context : ℕ) (user value : Piece) → IsUserData user (context, value) → in_context context user.octets ≡ Ok value.octets
unfolding in_context
context_back context user value is = rw (pdv_back user (context, value) is, eq-eqb context context refl) refl

pdu_tells : (phase : Phase) (line : Line) (octets : List ℕ) (user : Piece) (x : Phase × Option Event) → IsSpdu (anywhere octets) (transfer user) → pdu_in phase line user.octets ≡ Ok x → TellsPdu phase line.context octets x
unfolding pdu_in
pdu_tells phase line octets user x is h =
    let a = bind_ok (in_context line.context user.octets) (λ pdu. let r : Outcome = Ok (phase, Some (Pdu pdu)) in r) x h in
    let v = context_found line.context user a.0 a.1 in
    (a.0, record { user = user; spdu = is; part = v.0; pdv = v.1; is = sym v.2 }, sym (ok_is {F = Cause} (phase, Some (Pdu a.0)) x a.2))

pdu_back : (phase : Phase) (line : Line) (octets pdu : List ℕ) (d : IsData octets line.context pdu) → pdu_in phase line d.user.octets ≡ Ok (phase, Some (Pdu pdu))
unfolding pdu_in
pdu_back phase line octets pdu d = rw (context_back line.context d.user d.part d.pdv) (ap (λ (p : List ℕ). let r : Outcome = Ok (phase, Some (Pdu p)) in r) d.is)

-- ---- a FINISH and a DISCONNECT

abbrev asks_release : Line → ℕ → List ℕ → Outcome
asks_release line acse apdu = with_fault of_association (rlrq_of apdu) >>= λ y. Ok (released line acse)

finish_tells : (line : Line) (acse : ℕ) (octets : List ℕ) (user : Option Piece) (x : Phase × Option Event) → IsSpdu (anywhere octets) (finish user) → finish_at line acse (option_map bare user) ≡ Ok x → IsFinish octets acse × (x ≡ released line acse)
unfolding finish_at
finish_tells line acse octets None x is h = ((None, is, tt), sym (ok_is {F = Cause} (released line acse) x h))
finish_tells line acse octets (Some user) x is h =
    let a = bind_ok (in_context acse user.octets) (asks_release line acse) x h in
    let v = context_found acse user a.0 a.1 in
    let b = bind_ok (with_fault of_association (rlrq_of v.0.octets)) (λ y. let r : Outcome = Ok (released line acse) in r) x (subst (λ (p : List ℕ). asks_release line acse p ≡ Ok x) v.2 a.2) in
    ((Some user, is, (v.0, v.1, rlrq_found v.0 (unfaulted of_association (rlrq_of v.0.octets) b.0 b.1))), sym (ok_is {F = Cause} (released line acse) x b.2))

finish_back : (line : Line) (acse : ℕ) (user : Option Piece) → HasRelease RLRQ acse user → finish_at line acse (option_map bare user) ≡ Ok (released line acse)
unfolding finish_at
finish_back line acse None h = refl
finish_back line acse (Some user) (apdu, is, release) = rw (context_back acse user apdu is, rlrq_back apdu release) refl

abbrev answers_release : List ℕ → Outcome
answers_release apdu = with_fault of_association (rlre_of apdu) >>= λ y. Ok ended

end_tells : (octets : List ℕ) (user : Option Piece) (x : Phase × Option Event) → HasUser DISCONNECT (anywhere octets) user → end_at (option_map bare user) ≡ Ok x → IsDisconnect octets × (x ≡ ended)
unfolding end_at
end_tells octets None x is h = ((None, is, tt), sym (ok_is {F = Cause} ended x h))
end_tells octets (Some user) x is h =
    let a = bind_ok (in_context 1 user.octets) answers_release x h in
    let v = context_found 1 user a.0 a.1 in
    let b = bind_ok (with_fault of_association (rlre_of v.0.octets)) (λ y. let r : Outcome = Ok ended in r) x (subst (λ (p : List ℕ). answers_release p ≡ Ok x) v.2 a.2) in
    ((Some user, is, (v.0, v.1, rlre_found v.0 (unfaulted of_association (rlre_of v.0.octets) b.0 b.1))), sym (ok_is {F = Cause} ended x b.2))

end_back : (user : Option Piece) → HasRelease RLRE 1 user → end_at (option_map bare user) ≡ Ok ended
unfolding end_at
end_back None h = refl
end_back (Some user) (apdu, is, release) = rw (context_back 1 user apdu is, rlre_back apdu release) refl

-- ---- the association is there

next_tells : (line : Line) (acse : ℕ) (octets : List ℕ) (s : Seen) (x : Phase × Option Event) → IsSpdu (anywhere octets) s → next_spdu line acse (told s) ≡ Ok x → TellsData (Open line acse) octets x
next_tells line acse octets (connect user) x is h = absurd cc
next_tells line acse octets (transfer user) x is h = inl (pdu_tells (Open line acse) line octets user x is h)
next_tells line acse octets (finish user) x is h = inr (inl (finish_tells line acse octets user x is h))
next_tells line acse octets abort x is h = inr (inr (is, sym (ok_is {F = Cause} (Ended, Some Aborted) x h)))

open_tells : (line : Line) (acse : ℕ) (octets : List ℕ) (x : Phase × Option Event) → open_at line acse octets ≡ Ok x → TellsData (Open line acse) octets x
unfolding open_at
open_tells line acse octets x h =
    let a = bind_ok (with_fault of_session (spdu_from octets)) (next_spdu line acse) x h in
    let s = spdu_found octets a.0 (unfaulted of_session (spdu_from octets) a.0 a.1) in
    next_tells line acse octets s.0 x s.1 (subst (λ (t : Told). next_spdu line acse t ≡ Ok x) s.2 a.2)

open_back : (line : Line) (acse : ℕ) (octets : List ℕ) (x : Phase × Option Event) → TellsData (Open line acse) octets x → open_at line acse octets ≡ Ok x
unfolding open_at
open_back line acse octets x (inl (pdu, d, same)) = rw (same, spdu_back octets (transfer d.user) d.spdu) (pdu_back (Open line acse) line octets pdu d)
open_back line acse octets x (inr (inl ((user, is, release), same))) = rw (same, spdu_back octets (finish user) is) (finish_back line acse user release)
open_back line acse octets x (inr (inr (is, same))) = rw (same, spdu_back octets abort is) refl

served_tells : (line : Line) (octets : List ℕ) (s : Seen) (x : Phase × Option Event) → IsSpdu (anywhere octets) s → served_spdu line (told s) ≡ Ok x → TellsData (Joined line) octets x
served_tells line octets (connect user) x is h = absurd cc
served_tells line octets (transfer user) x is h = inl (pdu_tells (Joined line) line octets user x is h)
served_tells line octets (finish user) x is h = absurd cc
served_tells line octets abort x is h = inr (inr (is, sym (ok_is {F = Cause} (Ended, Some Aborted) x h)))

abbrev at_end : List ℕ → Outcome
at_end octets = with_fault of_session (dn_from octets) >>= λ user. end_at user

abbrev at_work : Line → List ℕ → Outcome
at_work line octets = with_fault of_session (spdu_from octets) >>= λ spdu. served_spdu line spdu

either_tells : (line : Line) (octets : List ℕ) (x : Phase × Option Event) (b : Bool) → cond b (at_end octets) (at_work line octets) ≡ Ok x → TellsData (Joined line) octets x
either_tells line octets x true h =
    let a = bind_ok (with_fault of_session (dn_from octets)) end_at x h in
    let u = dn_found octets a.0 (unfaulted of_session (dn_from octets) a.0 a.1) in
    inr (inl (end_tells octets u.0 x u.1 (subst (λ (y : Option (List ℕ)). end_at y ≡ Ok x) u.2 a.2)))
either_tells line octets x false h =
    let a = bind_ok (with_fault of_session (spdu_from octets)) (served_spdu line) x h in
    let s = spdu_found octets a.0 (unfaulted of_session (spdu_from octets) a.0 a.1) in
    served_tells line octets s.0 x s.1 (subst (λ (t : Told). served_spdu line t ≡ Ok x) s.2 a.2)

joined_tells : (line : Line) (octets : List ℕ) (x : Phase × Option Event) → joined_at line octets ≡ Ok x → TellsData (Joined line) octets x
unfolding joined_at
joined_tells line octets x h = either_tells line octets x (begins DISCONNECT octets) h

begins_at : (octets : List ℕ) (user : Option Piece) → HasUser DISCONNECT (anywhere octets) user → begins DISCONNECT octets ≡ true
begins_at octets user (parameters, unit, is) = ap (λ (o : List ℕ). begins DISCONNECT o) unit.whole

not_abort : (octets : List ℕ) → IsAbort octets → begins DISCONNECT octets ≡ false
not_abort octets (user, (parameters, unit, is)) = ap (λ (o : List ℕ). begins DISCONNECT o) unit.whole

not_data : (octets : List ℕ) (user : Piece) → IsSpdu (anywhere octets) (transfer user) → begins DISCONNECT octets ≡ false
not_data octets user is = ap (λ (o : List ℕ). begins DISCONNECT o) is.0

joined_back : (line : Line) (octets : List ℕ) (x : Phase × Option Event) → TellsData (Joined line) octets x → joined_at line octets ≡ Ok x
unfolding joined_at
joined_back line octets x (inl (pdu, d, same)) = rw (same, not_data octets d.user d.spdu, spdu_back octets (transfer d.user) d.spdu) (pdu_back (Joined line) line octets pdu d)
joined_back line octets x (inr (inl ((user, is, release), same))) = rw (same, begins_at octets user is, dn_back octets user is) (end_back user release)
joined_back line octets x (inr (inr (is, same))) = rw (same, not_abort octets is, spdu_back octets abort is) refl

-- ---- a TSDU

data_tells : (phase : Phase) (octets : List ℕ) (x : Phase × Option Event) → IsBytes octets → data_at phase octets ≡ Ok x → TellsData phase octets x
unfolding data_at
data_tells Idle octets x fits h = absurd cc
data_tells (Calling size) octets x fits h = absurd cc
data_tells (Called exponent) octets x fits h = called_tells exponent octets x fits h
data_tells (Open line acse) octets x fits h = open_tells line acse octets x h
data_tells (Asking exponent size) octets x fits h = asking_tells exponent size octets x fits h
data_tells (Joined line) octets x fits h = joined_tells line octets x h
data_tells Ended octets x fits h = sym (ok_is {F = Cause} (Ended, None) x h)

data_back : (phase : Phase) (octets : List ℕ) (x : Phase × Option Event) → TellsData phase octets x → data_at phase octets ≡ Ok x
unfolding data_at
data_back Idle octets x h = absurd h
data_back (Calling size) octets x h = absurd h
data_back (Called exponent) octets x (cp, i, r, same) = rw same (request_back exponent octets cp i r)
data_back (Open line acse) octets x h = open_back line acse octets x h
data_back (Asking exponent size) octets x (i, r, same) = rw same (response_back exponent size octets i r)
data_back (Joined line) octets x h = joined_back line octets x h
data_back Ended octets x h = rw h refl

pub tsdu_tells : (phase : Phase) (tsdu : Tsdu) (x : Phase × Option Event) → HasOctets tsdu → tsdu_at phase tsdu ≡ Ok x → Tells phase tsdu x
unfolding tsdu_at
tsdu_tells phase (Connect cr) x fits h = sym (ok_is {F = Cause} (connect_at phase cr) x h)
tsdu_tells phase (Data octets) x fits h = data_tells phase octets x fits h
tsdu_tells phase Disconnect x fits h = sym (ok_is {F = Cause} (Ended, Some Aborted) x h)

pub tsdu_back : (phase : Phase) (tsdu : Tsdu) (x : Phase × Option Event) → Tells phase tsdu x → tsdu_at phase tsdu ≡ Ok x
unfolding tsdu_at
tsdu_back phase (Connect cr) x h = rw h refl
tsdu_back phase (Data octets) x h = data_back phase octets x h
tsdu_back phase Disconnect x h = rw h refl
