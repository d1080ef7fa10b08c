-- A TSDU is refused for the first production that isn't there, and the other way round.
use Rattle.std.proofs.Common.{◌≡◌, ℕ, inl, inr, Bool, true, false, cond, eqb, List, Option, Some, None, Result, Ok, Err, refl, sym, ap, subst, ◌∙◌}
use Rattle.std.specs.Option.{option_map}
use Rattle.std.proofs.lemmas.Bool.{eqb-true, eqb-false}
use Rattle.list_laws.proofs.Options.{ok_is, err_is}
use Rattle.ber_grammar.specs.Octets.{IsBytes}
use Rattle.ber_grammar.specs.Place.{Piece, anywhere}
use Rattle.ber_grammar.specs.Reader.{◌>>=◌, with_fault, Reads}
use Rattle.ber_grammar.specs.Steps.{Or, IsLacking, required}
use Rattle.tpkt_cotp.specs.declared.fault.TpFault.TheVariants as transport
use Rattle.tpkt_cotp.specs.declared.tsdus.Tsdu.{Tsdu}
use Rattle.tpkt_cotp.specs.declared.tsdus.Tsdu.TheVariants.{Connect, Data, Disconnect}
use Rattle.session_pres.specs.declared.codes.TheConstants.{CONNECT, DISCONNECT}
use Rattle.session_pres.specs.declared.fault.SpFault.{SpFault}
use Rattle.session_pres.specs.declared.fault.SpFault.TheVariants as session
use Rattle.session_pres.specs.Units.{Seen, HasUser, IsUserRefused, IsSpdu, IsSpduRefused, connect, transfer, finish, abort, begins}
use Rattle.session_pres.specs.UnitReading.{spdu_at, user_of}
use Rattle.session_pres.specs.UserData.{IsUserData, user_data_at}
use Rattle.session_pres.specs.Presentation.{IsCp, IsCpRefused, IsAc, IsAcRefused}
use Rattle.session_pres.specs.PresentationReading.{cp_at, ac_at}
use Rattle.session_pres.specs.Plain.{told, asked, octets as bare, pdv_octets, spdu_from, cp_from, ac_from, dn_from}
use Rattle.session_pres.proofs.UnitLaws.{spdu_exact, user_exact}
use Rattle.session_pres.proofs.PresentationLaws.{cp_exact, ac_exact}
use Rattle.session_pres.proofs.OneWayLaws.{pdv_exact, pdv_one}
use Rattle.session_pres.proofs.AnywhereLaws.{spdu_anywhere, cp_anywhere, ac_anywhere, dn_anywhere, pdv_anywhere}
use Rattle.session_pres.proofs.HoldLaws.{data_holds, cp_holds, ac_holds}
use Rattle.acse_apdu.specs.declared.codes.TheConstants.{RLRQ, RLRE}
use Rattle.acse_apdu.specs.declared.fault.AcFault.{AcFault}
use Rattle.acse_apdu.specs.Grammar.{IsAarq, IsAarqRefused, IsAare, IsAareRefused, IsRelease, IsReleaseRefused}
use Rattle.acse_apdu.specs.Reading.{aarq_at, aare_at, release_at, pdu_of_aarq, pdu_of_aare, rlrq_of, rlre_of}
use Rattle.acse_apdu.proofs.ApduLaws.{aarq_exact, aare_exact, release_exact, aarq_holds, aare_holds}
use Rattle.acse_apdu.proofs.AnywhereLaws.{aarq-anywhere, aare-anywhere, rlrq-anywhere, rlre-anywhere}
use Rattle.mms_initiate.specs.Initiate.{IsAccepted, IsInitiateRefused}
use Rattle.mms_initiate.specs.InitiateReading.{initiate_at}
use Rattle.mms_initiate.proofs.InitiateLaws.{initiate_exact}
use Rattle.osi_stack.specs.declared.cause.Cause.{Cause}
use Rattle.osi_stack.specs.declared.events.Event.{Event}
use Rattle.osi_stack.specs.declared.events.Event.TheVariants.{Pdu, Aborted}
use Rattle.osi_stack.specs.declared.events.Line.{Line}
use Rattle.osi_stack.specs.declared.phase.Phase.{Phase}
use Rattle.osi_stack.specs.declared.phase.Phase.TheVariants.{Idle, Called, Open, Calling, Asking, Joined, Ended}
use Rattle.osi_stack.specs.Causes.{of_transport, of_session, of_association, of_initiate}
use Rattle.osi_stack.specs.Called.{Outcome, accepted, request_at, first_spdu, called_at, in_context, released, finish_at, pdu_in, next_spdu, open_at}
use Rattle.osi_stack.specs.Calling.{joined, asking_at, ended, end_at, served_spdu, joined_at}
use Rattle.osi_stack.specs.Machine.{connect_at, data_at, tsdu_at}
use Rattle.osi_stack.specs.Refusals.{In, IsRequestRefused, IsFirstRefused, IsResponseRefused, IsOutside, IsNoRelease, IsNextRefused, IsServedRefused, IsUnitRefused, IsEndRefused, IsDataRefused, IsTsduRefused}
use Rattle.osi_stack.specs.Spelled.{HasOctets}
use Rattle.osi_stack.proofs.TellsLaws.{if_in, context_found, context_back}

-- ---- a refusal exactly for its cause

pub record Refuses {W : Type 0} (r : Result W Cause) (R : Cause → Type 0) : Type 0 where
  pub tells : (c : Cause) → r ≡ Err c → R c
  pub again : (c : Cause) → R c → r ≡ Err c

never : {W : Type 0} (w : W) (r : Result W Cause) (R : Cause → Type 0) → r ≡ Ok w → ((c : Cause) → ¬ R c) → Refuses r R
never w r R e none = record { tells = λ c h. absurd (let q = sym e ∙ h in cc); again = λ c h. absurd (none c h) }

always : {W : Type 0} (d : Cause) (r : Result W Cause) → r ≡ Err d → Refuses r (λ c. c ≡ d)
always {W = W} d r e = record { tells = λ c h. err_is {A = W} c d (sym h ∙ e); again = λ c h. e ∙ ap (λ (x : Cause). let q : Result W Cause = Err x in q) (sym h) }

-- a layer reads, and then comes another step
behind : {Y Z W F : Type 0} (cause_of : F → Cause) (view : Y → Z) (r : Result Y F) (S : Y → Type 0) (R : F → Type 0) (g : Z → Result W Cause) (Q : Y → Cause → Type 0)
    → Reads (λ (y : Y). y) r S R → ((y : Y) → S y → Refuses (g (view y)) (Q y)) → Refuses (with_fault cause_of (r >>= λ y. Ok (view y)) >>= g) (Or (In cause_of R) S Q)
behind {F = F} cause_of view (Ok y) S R g Q reads later = let k = later y reads.tells in record {
  tells = λ c h. inr (y, reads.tells, k.tells c h);
  again = refused;
}
  where
    refused : (c : Cause) → Or (In cause_of R) S Q c → g (view y) ≡ Err c
    refused c (inl (f, bad, same)) = absurd (let e = reads.refuses f bad in cc)
    refused c (inr (z, s, q)) = let is : z ≡ y = ok_is {F = F} z y (reads.only z s) in (later y reads.tells).again c (subst (λ (x : _). Q x c) is q)
behind {Y = Y} {W = W} cause_of view (Err f) S R g Q reads later = record {
  tells = λ c h. inl (f, reads.tells, sym (err_is {A = W} (cause_of f) c h));
  again = refused;
}
  where
    refused : (c : Cause) → Or (In cause_of R) S Q c → (let x : Result W Cause = Err (cause_of f) in x) ≡ Err c
    refused c (inl (d, bad, same)) = let is : d ≡ f = err_is {A = Y} d f (reads.refuses d bad) in ap (λ (x : Cause). let q : Result W Cause = Err x in q) (ap cause_of (sym is) ∙ sym same)
    refused c (inr (z, s, q)) = absurd (let e = reads.only z s in cc)

-- the same of a reader of octets alone
then_refuses : {Y Z W F : Type 0} (cause_of : F → Cause) (view : Y → Z) (r : Result Y F) (read : Result Z F) (S : Y → Type 0) (R : F → Type 0) (g : Z → Result W Cause) (Q : Y → Cause → Type 0)
    → Reads (λ (y : Y). y) r S R → (r >>= λ y. Ok (view y)) ≡ read → ((y : Y) → S y → Refuses (g (view y)) (Q y)) → Refuses (with_fault cause_of read >>= g) (Or (In cause_of R) S Q)
then_refuses cause_of view r read S R g Q reads e later = subst (λ (x : _). Refuses (with_fault cause_of x >>= g) (Or (In cause_of R) S Q)) e (behind cause_of view r S R g Q reads later)

-- the last layer
last_refuses : {Y W F : Type 0} (cause_of : F → Cause) (r : Result Y F) (S : Y → Type 0) (R : F → Type 0) (make : Y → W) → Reads (λ (y : Y). y) r S R → Refuses (with_fault cause_of r >>= λ y. Ok (make y)) (In cause_of R)
last_refuses {F = F} cause_of (Ok y) S R make reads = never (make y) (Ok (make y)) (In cause_of R) refl (λ c (f, bad, same). let e = reads.refuses f bad in cc)
last_refuses {Y = Y} {W = W} cause_of (Err f) S R make reads = record {
  tells = λ c h. (f, reads.tells, sym (err_is {A = W} (cause_of f) c h));
  again = λ c (d, bad, same). let is : d ≡ f = err_is {A = Y} d f (reads.refuses d bad) in ap (λ (x : Cause). let q : Result W Cause = Err x in q) (ap cause_of (sym is) ∙ sym same);
}

-- ---- the association is made

request_refuses : (exponent : ℕ) (user : Piece) → IsBytes user.octets → Refuses (request_at exponent user.octets) (IsRequestRefused user)
unfolding request_at
request_refuses exponent user fits =
    then_refuses of_session asked (cp_at user) (cp_from user.octets) (IsCp user) (IsCpRefused user) _ _ (cp_exact user) (cp_anywhere user) (λ cp is.
    let bytes = cp_holds user cp fits is in
    then_refuses of_association bare (aarq_at cp.user) (pdu_of_aarq cp.user.octets) (IsAarq cp.user) (IsAarqRefused cp.user) _ _ (aarq_exact cp.user bytes) (aarq-anywhere cp.user) (λ pdu apdu.
    last_refuses of_initiate (initiate_at 168 pdu.octets) (IsAccepted 168 pdu.octets) (IsInitiateRefused 168 pdu.octets) (λ i. accepted exponent (asked cp) i) (initiate_exact 168 pdu.octets (aarq_holds cp.user pdu bytes apdu))))

first_refuses : (exponent : ℕ) (octets : List ℕ) (s : Seen) → IsBytes octets → IsSpdu (anywhere octets) s → Refuses (first_spdu exponent (told s)) (IsFirstRefused s)
first_refuses exponent octets (connect user) fits is = request_refuses exponent user (data_holds CONNECT (anywhere octets) user fits is)
first_refuses exponent octets (transfer user) fits is = always (of_session session.Spdu) (first_spdu exponent (told (transfer user))) refl
first_refuses exponent octets (finish user) fits is = always (of_session session.Spdu) (first_spdu exponent (told (finish user))) refl
first_refuses exponent octets abort fits is = always (of_session session.Spdu) (first_spdu exponent (told abort)) refl

unit_refuses : (octets : List ℕ) (g : _ → Outcome) (Q : Seen → Cause → Type 0) → ((s : Seen) → IsSpdu (anywhere octets) s → Refuses (g (told s)) (Q s)) → Refuses (with_fault of_session (spdu_from octets) >>= g) (IsUnitRefused octets Q)
unit_refuses octets g Q later = then_refuses of_session told (spdu_at (anywhere octets)) (spdu_from octets) (IsSpdu (anywhere octets)) (IsSpduRefused (anywhere octets)) g Q (spdu_exact (anywhere octets)) (spdu_anywhere (anywhere octets)) later

called_refuses : (exponent : ℕ) (octets : List ℕ) → IsBytes octets → Refuses (called_at exponent octets) (IsUnitRefused octets IsFirstRefused)
unfolding called_at
called_refuses exponent octets fits = unit_refuses octets (first_spdu exponent) IsFirstRefused (λ s is. first_refuses exponent octets s fits is)

asking_refuses : (exponent size : ℕ) (octets : List ℕ) → IsBytes octets → Refuses (asking_at exponent size octets) (IsResponseRefused octets)
unfolding asking_at
asking_refuses exponent size octets fits =
    then_refuses of_session bare (ac_at (anywhere octets)) (ac_from octets) (IsAc (anywhere octets)) (IsAcRefused (anywhere octets)) _ _ (ac_exact (anywhere octets)) (ac_anywhere (anywhere octets)) (λ user is.
    let bytes = ac_holds (anywhere octets) user fits is in
    then_refuses of_association bare (aare_at user) (pdu_of_aare user.octets) (IsAare user) (IsAareRefused user) _ _ (aare_exact user bytes) (aare-anywhere user) (λ pdu apdu.
    last_refuses of_initiate (initiate_at 169 pdu.octets) (IsAccepted 169 pdu.octets) (IsInitiateRefused 169 pdu.octets) (λ i. joined exponent size i) (initiate_exact 169 pdu.octets (aare_holds user pdu bytes apdu))))

-- ---- user data in a context

outside_of : (context n : ℕ) (user value : Piece) (b : Bool) → eqb n context ≡ b → IsUserData user (n, value) → Refuses (let r : Result (List ℕ) Cause = cond b (Ok value.octets) (Err (of_session session.Pdv)) in r) (IsOutside context user)
outside_of context n user value true e is = never value.octets (Ok value.octets) (IsOutside context user) refl (λ c h. h.1 value (subst (λ (k : ℕ). IsUserData user (k, value)) (eqb-true n context e) is))
outside_of context n user value false e is = record {
  tells = λ c h. (sym (err_is {A = List ℕ} (of_session session.Pdv) c h), λ other has. eqb-false n context e (ap (λ (x : ℕ × Piece). x.0) ((pdv_one user).one_value (n, value) (context, other) is has)));
  again = λ c h. ap (λ (x : Cause). let q : Result (List ℕ) Cause = Err x in q) (sym h.0);
}

outside_at : (context : ℕ) (user : Piece) (r : Result (ℕ × Piece) SpFault) → Reads (λ (y : ℕ × Piece). y) r (IsUserData user) (IsLacking session.Pdv (IsUserData user)) → Refuses (with_fault of_session (r >>= λ y. Ok (pdv_octets y)) >>= if_in context) (IsOutside context user)
outside_at context user (Ok (n, value)) reads = outside_of context n user value (eqb n context) refl reads.tells
outside_at context user (Err f) reads = record {
  tells = λ c h. (sym (err_is {A = List ℕ} (of_session f) c h) ∙ ap of_session reads.tells.0, λ value. reads.tells.1 (context, value));
  again = λ c h. ap (λ (x : Cause). let q : Result (List ℕ) Cause = Err x in q) (ap of_session reads.tells.0 ∙ sym h.0);
}

context_refuses : (context : ℕ) (user : Piece) → Refuses (in_context context user.octets) (IsOutside context user)
unfolding in_context
context_refuses context user =
    subst (λ (x : Result (ℕ × List ℕ) SpFault). Refuses (with_fault of_session x >>= if_in context) (IsOutside context user)) (pdv_anywhere user) (outside_at context user (required session.Pdv (user_data_at user)) (pdv_exact user))

kept : {Y W : Type 0} (r : Result Y Cause) (R : Cause → Type 0) (make : Y → W) → Refuses r R → Refuses (r >>= λ y. Ok (make y)) R
kept {Y = Y} {W = W} (Ok y) R make k = never (make y) (Ok (make y)) R refl (λ c h. let e = k.again c h in cc)
kept {Y = Y} {W = W} (Err d) R make k = record {
  tells = λ c h. k.tells c (ap (λ (x : Cause). let q : Result Y Cause = Err x in q) (err_is {A = W} d c h));
  again = λ c h. ap (λ (x : Cause). let q : Result W Cause = Err x in q) (err_is {A = Y} d c (k.again c h));
}

pdu_refuses : (phase : Phase) (line : Line) (user : Piece) → Refuses (pdu_in phase line user.octets) (IsOutside line.context user)
unfolding pdu_in
pdu_refuses phase line user = kept (in_context line.context user.octets) (IsOutside line.context user) (λ pdu. let x : Phase × Option Event = (phase, Some (Pdu pdu)) in x) (context_refuses line.context user)

-- ---- a release

-- user data in a context, and then another step
in_then : (context : ℕ) (user : Piece) (r : Result (List ℕ) Cause) (g : List ℕ → Outcome) (Q : Piece → Cause → Type 0) → in_context context user.octets ≡ r → Refuses r (IsOutside context user) → ((apdu : Piece) → IsUserData user (context, apdu) → Refuses (g apdu.octets) (Q apdu))
    → Refuses (r >>= g) (Or (IsOutside context user) (λ apdu. IsUserData user (context, apdu)) Q)
in_then context user (Ok v) g Q e k later = let f = context_found context user v e in record {
  tells = λ c h. inr (f.0, f.1, (later f.0 f.1).tells c (subst (λ (x : List ℕ). g x ≡ Err c) f.2 h));
  again = refused;
}
  where
    refused : (c : Cause) → Or (IsOutside context user) (λ apdu. IsUserData user (context, apdu)) Q c → g v ≡ Err c
    refused c (inl h) = absurd (let q = k.again c h in cc)
    refused c (inr (apdu, is, q)) = let same : v ≡ apdu.octets = ok_is {F = Cause} v apdu.octets (sym e ∙ context_back context user apdu is) in subst (λ (x : List ℕ). g x ≡ Err c) (sym same) ((later apdu is).again c q)
in_then context user (Err d) g Q e k later = record {
  tells = λ c h. inl (k.tells c (ap (λ (x : Cause). let q : Result (List ℕ) Cause = Err x in q) (err_is {A = Phase × Option Event} d c h)));
  again = refused;
}
  where
    refused : (c : Cause) → Or (IsOutside context user) (λ apdu. IsUserData user (context, apdu)) Q c → (let x : Outcome = Err d in x) ≡ Err c
    refused c (inl h) = ap (λ (x : Cause). let q : Outcome = Err x in q) (err_is {A = List ℕ} d c (k.again c h))
    refused c (inr (apdu, is, q)) = absurd (let p = sym e ∙ context_back context user apdu is in cc)

release_refuses : (tag : ℕ) (apdu : Piece) (read : Result (Unit {0}) AcFault) (x : Phase × Option Event) → release_at tag apdu ≡ read → Refuses (with_fault of_association read >>= λ y. let r : Outcome = Ok x in r) (In of_association (IsReleaseRefused tag apdu))
release_refuses tag apdu read x e =
    subst (λ (z : Result (Unit {0}) AcFault). Refuses (with_fault of_association z >>= λ y. let r : Outcome = Ok x in r) (In of_association (IsReleaseRefused tag apdu))) e
    (last_refuses of_association (release_at tag apdu) (λ y. IsRelease tag apdu) (IsReleaseRefused tag apdu) (λ y. x) (release_exact tag apdu))

finish_refuses : (line : Line) (acse : ℕ) (user : Option Piece) → Refuses (finish_at line acse (option_map bare user)) (IsNoRelease RLRQ acse user)
unfolding finish_at
finish_refuses line acse None = never (released line acse) (Ok (released line acse)) (IsNoRelease RLRQ acse None) refl (λ c h. h)
finish_refuses line acse (Some user) =
    in_then acse user (in_context acse user.octets) _ (λ apdu. In of_association (IsReleaseRefused RLRQ apdu)) refl (context_refuses acse user) (λ apdu is. release_refuses RLRQ apdu (rlrq_of apdu.octets) (released line acse) (rlrq-anywhere apdu))

end_refuses : (user : Option Piece) → Refuses (end_at (option_map bare user)) (IsNoRelease RLRE 1 user)
unfolding end_at
end_refuses None = never ended (Ok ended) (IsNoRelease RLRE 1 None) refl (λ c h. h)
end_refuses (Some user) =
    in_then 1 user (in_context 1 user.octets) _ (λ apdu. In of_association (IsReleaseRefused RLRE apdu)) refl (context_refuses 1 user) (λ apdu is. release_refuses RLRE apdu (rlre_of apdu.octets) ended (rlre-anywhere apdu))

-- ---- the association is there

next_refuses : (line : Line) (acse : ℕ) (s : Seen) → Refuses (next_spdu line acse (told s)) (IsNextRefused line acse s)
next_refuses line acse (connect user) = always (of_session session.Spdu) (next_spdu line acse (told (connect user))) refl
next_refuses line acse (transfer user) = pdu_refuses (Open line acse) line user
next_refuses line acse (finish user) = finish_refuses line acse user
next_refuses line acse abort = never (Ended, Some Aborted) (next_spdu line acse (told abort)) (IsNextRefused line acse abort) refl (λ c h. h)

open_refuses : (line : Line) (acse : ℕ) (octets : List ℕ) → Refuses (open_at line acse octets) (IsUnitRefused octets (IsNextRefused line acse))
unfolding open_at
open_refuses line acse octets = unit_refuses octets (next_spdu line acse) (IsNextRefused line acse) (λ s is. next_refuses line acse s)

served_refuses : (line : Line) (s : Seen) → Refuses (served_spdu line (told s)) (IsServedRefused line s)
served_refuses line (connect user) = always (of_session session.Spdu) (served_spdu line (told (connect user))) refl
served_refuses line (transfer user) = pdu_refuses (Joined line) line user
served_refuses line (finish user) = always (of_session session.Spdu) (served_spdu line (told (finish user))) refl
served_refuses line abort = never (Ended, Some Aborted) (served_spdu line (told abort)) (IsServedRefused line abort) refl (λ c h. h)

end_unit_refuses : (octets : List ℕ) → Refuses (with_fault of_session (dn_from octets) >>= λ user. end_at user) (IsEndRefused octets)
end_unit_refuses octets =
    then_refuses of_session (option_map bare) (user_of DISCONNECT (anywhere octets)) (dn_from octets) (HasUser DISCONNECT (anywhere octets)) (IsUserRefused DISCONNECT (anywhere octets)) end_at (IsNoRelease RLRE 1) (user_exact DISCONNECT (anywhere octets)) (dn_anywhere (anywhere octets)) (λ user is. end_refuses user)

either_refuses : (line : Line) (octets : List ℕ) (b : Bool) → begins DISCONNECT octets ≡ b
    → Refuses (cond b (with_fault of_session (dn_from octets) >>= λ user. end_at user) (with_fault of_session (spdu_from octets) >>= λ spdu. served_spdu line spdu)) (IsDataRefused (Joined line) octets)
either_refuses line octets true e = let k = end_unit_refuses octets in record { tells = λ c h. inl (e, k.tells c h); again = refused }
  where
    refused : (c : Cause) → IsDataRefused (Joined line) octets c → (with_fault of_session (dn_from octets) >>= λ user. end_at user) ≡ Err c
    refused c (inl (has, q)) = (end_unit_refuses octets).again c q
    refused c (inr (other, q)) = absurd (other e)
either_refuses line octets false e = let k = unit_refuses octets (served_spdu line) (IsServedRefused line) (λ s is. served_refuses line s) in record { tells = λ c h. inr (λ has. cc (e, has), k.tells c h); again = refused }
  where
    refused : (c : Cause) → IsDataRefused (Joined line) octets c → (with_fault of_session (spdu_from octets) >>= λ spdu. served_spdu line spdu) ≡ Err c
    refused c (inl (has, q)) = absurd cc
    refused c (inr (other, q)) = (unit_refuses octets (served_spdu line) (IsServedRefused line) (λ s is. served_refuses line s)).again c q

joined_refuses : (line : Line) (octets : List ℕ) → Refuses (joined_at line octets) (IsDataRefused (Joined line) octets)
unfolding joined_at
joined_refuses line octets = either_refuses line octets (begins DISCONNECT octets) refl

-- ---- a TSDU

data_refuses : (phase : Phase) (octets : List ℕ) → IsBytes octets → Refuses (data_at phase octets) (IsDataRefused phase octets)
unfolding data_at
data_refuses Idle octets fits = always (of_transport transport.Sequence) (Err (of_transport transport.Sequence)) refl
data_refuses (Calling size) octets fits = always (of_transport transport.Sequence) (Err (of_transport transport.Sequence)) refl
data_refuses (Called exponent) octets fits = called_refuses exponent octets fits
data_refuses (Open line acse) octets fits = open_refuses line acse octets
data_refuses (Asking exponent size) octets fits = asking_refuses exponent size octets fits
data_refuses (Joined line) octets fits = joined_refuses line octets
data_refuses Ended octets fits = never (Ended, None) (Ok (Ended, None)) (IsDataRefused Ended octets) refl (λ c h. h)

pub tsdu_refuses : (phase : Phase) (tsdu : Tsdu) → HasOctets tsdu → Refuses (tsdu_at phase tsdu) (IsTsduRefused phase tsdu)
unfolding tsdu_at
tsdu_refuses phase (Connect cr) fits = never (connect_at phase cr) (Ok (connect_at phase cr)) (IsTsduRefused phase (Connect cr)) refl (λ c h. h)
tsdu_refuses phase (Data octets) fits = data_refuses phase octets fits
tsdu_refuses phase Disconnect fits = never (Ended, Some Aborted) (Ok (Ended, Some Aborted)) (IsTsduRefused phase Disconnect) refl (λ c h. h)
