-- What a caller's stream begins with: the CN to send, and then the line.
use Rattle.std.proofs.Common.{◌≡◌, ℕ, inl, inr, ◌⊎◌, true, false, List, [], ◌∷◌, ◌++◌, Option, Some, None, Result, Ok, Err, refl, sym, ap, subst, ◌∙◌, append-nil}
use Rattle.std.specs.Option.{option_to_list}
use Rattle.list_laws.proofs.Options.{ok_is}
use Rattle.ber_grammar.specs.Reader.{◌>>=◌, with_fault}
use Rattle.ber_grammar.proofs.ReaderLaws.{bind_ok}
use Rattle.tpkt_cotp.specs.declared.fault.TpFault.{TpFault}
use Rattle.tpkt_cotp.specs.declared.state.State.{State}
use Rattle.tpkt_cotp.specs.declared.tsdus.Tsdu.{Tsdu}
use Rattle.tpkt_cotp.specs.declared.tsdus.Tsdu.TheVariants.{Connect, Data, Disconnect}
use Rattle.tpkt_cotp.specs.Tpdu.{IsTaken, tpdu_at}
use Rattle.tpkt_cotp.proofs.KeptLaws.{step_taken}
use Rattle.session_pres.specs.Plain.{ac_from}
use Rattle.acse_apdu.specs.Reading.{pdu_of_aare}
use Rattle.mms_initiate.specs.declared.initiate.Initiate.{Initiate}
use Rattle.mms_initiate.specs.InitiateReading.{initiate_at}
use Rattle.osi_stack.specs.declared.cause.Cause.{Cause}
use Rattle.osi_stack.specs.declared.events.Event.{Event}
use Rattle.osi_stack.specs.declared.events.Event.TheVariants.{Answer, Connected, Pdu, Released, Aborted}
use Rattle.osi_stack.specs.declared.events.Line.{Line}
use Rattle.osi_stack.specs.declared.phase.Phase.{Phase}
use Rattle.osi_stack.specs.declared.phase.Phase.TheVariants.{Calling, Asking, Ended}
use Rattle.osi_stack.specs.Causes.{of_transport, of_session, of_association, of_initiate}
use Rattle.osi_stack.specs.Called.{Outcome}
use Rattle.osi_stack.specs.Calling.{line_left, joined, asking_at}
use Rattle.osi_stack.specs.Lines.{exponent_left}
use Rattle.osi_stack.specs.Machine.{connect_at, data_at, tsdu_at}
use Rattle.osi_stack.specs.Stream.{Stand, calling, stand_of, has_ended, gifts_at, given_at, step_at, Runs}
use Rattle.mms_client.specs.Requests.{connect_octets}
use Rattle.mms_client.specs.Arrivals.{pdus_in}
use Rattle.mms_client.specs.Opening.{answers_in, IsUnconnected}
use Rattle.mms_client.specs.Following.{CameTo}

-- ---- a step

transport_ok : (r : Result (State × Option Tsdu) TpFault) (y : State × Option Tsdu) → with_fault of_transport r ≡ Ok y → r ≡ Ok y
transport_ok (Ok z) y h = ap (λ (x : State × Option Tsdu). let r : Result (State × Option Tsdu) TpFault = Ok x in r) (ok_is {F = Cause} z y h)
transport_ok (Err f) y h = absurd cc

abbrev Parts : Stand → List ℕ → Stand → Option Event → Type 0
Parts s tpdu t e = (given : Option Tsdu) × IsTaken s.transport tpdu t.transport given × (gifts_at s.phase given ≡ Ok (t.phase, e))

given_parts : (s t : Stand) (tpdu : List ℕ) (e : Option Event) (u : State) (given : Option Tsdu) → tpdu_at s.transport tpdu ≡ Ok (u, given) → given_at s.phase (u, given) ≡ Ok (t, e) → Parts s tpdu t e
given_parts s t tpdu e u given step h =
    let b = bind_ok (gifts_at s.phase given) (λ x. let r : Result (Stand × Option Event) Cause = Ok (stand_of u x) in r) (t, e) h in
    let same : stand_of u b.0 ≡ (t, e) = ok_is {F = Cause} (stand_of u b.0) (t, e) b.2 in
    let taken = step_taken s.transport u tpdu given step in (
      given,
      subst (λ (z : State). IsTaken s.transport tpdu z given) (ap (λ (y : Stand × Option Event). y.0.transport) same) taken,
      b.1 ∙ ap (λ (y : Stand × Option Event). let r : Result (Phase × Option Event) Cause = Ok (y.0.phase, y.1) in r) same,
    )

step_parts : (s t : Stand) (tpdu : List ℕ) (e : Option Event) → step_at s tpdu ≡ Ok (t, e) → Parts s tpdu t e
unfolding step_at
step_parts s t tpdu e h =
    let a = bind_ok (with_fault of_transport (tpdu_at s.transport tpdu)) (given_at s.phase) (t, e) h in
    given_parts s t tpdu e a.0.0 a.0.1 (transport_ok (tpdu_at s.transport tpdu) a.0 a.1) a.2

-- ---- after the end

ended_runs : (s t : Stand) (tpdus : List (List ℕ)) (es : List Event) → s.phase ≡ Ended → Runs s tpdus es t → es ≡ []
ended_runs s t [] es ended runs = runs.0
ended_runs s t (p ∷ ps) es ended (on, mid, first, others, step, split, runs) = absurd (not_on (sym (ap has_ended ended) ∙ on))
  where
    not_on : true ≡ false → ⊥
    not_on e = cc

-- ---- the CN was asked for

abbrev Accepts : ℕ → List Event → Type 0
Accepts exponent es = (es ≡ []) ⊎ ((es ≡ Aborted ∷ []) ⊎ ((line : Line) × (o : List ℕ) × (more : List Event) × (es ≡ Connected line o ∷ more) × (line.exponent ≡ exponent)))

asked_line : (exponent size : ℕ) (octets : List ℕ) (x : Phase × Option Event) → asking_at exponent size octets ≡ Ok x → (i : Initiate) × (x ≡ joined exponent size i)
unfolding asking_at
asked_line exponent size octets x h =
    let a = bind_ok (with_fault of_session (ac_from octets)) (λ apdu. with_fault of_association (pdu_of_aare apdu) >>= λ pdu. with_fault of_initiate (initiate_at 169 pdu) >>= λ said. let r : Outcome = Ok (joined exponent size said) in r) x h in
    let b = bind_ok (with_fault of_association (pdu_of_aare a.0)) (λ pdu. with_fault of_initiate (initiate_at 169 pdu) >>= λ said. let r : Outcome = Ok (joined exponent size said) in r) x a.2 in
    let d = bind_ok (with_fault of_initiate (initiate_at 169 b.0)) (λ said. let r : Outcome = Ok (joined exponent size said) in r) x b.2 in
    (d.0, sym (ok_is {F = Cause} (joined exponent size d.0) x d.2))

-- what the next TPDU gives there
abbrev Next : ℕ → ℕ → Stand → Option Event → Type 0
Next exponent size t e = ((e ≡ None) × (t.phase ≡ Asking exponent size) × (t.transport.connected ≡ true))
    ⊎ (((e ≡ Some Aborted) × (t.phase ≡ Ended)) ⊎ ((line : Line) × (o : List ℕ) × (e ≡ Some (Connected line o)) × (line.exponent ≡ exponent)))

asking_next : (s t : Stand) (tpdu : List ℕ) (e : Option Event) (exponent size : ℕ) (given : Option Tsdu) → s.transport.connected ≡ true → IsTaken s.transport tpdu t.transport given
    → gifts_at (Asking exponent size) given ≡ Ok (t.phase, e) → Next exponent size t e
unfolding tsdu_at data_at
asking_next s t tpdu e exponent size None there taken h =
    let same : (Asking exponent size, None) ≡ (t.phase, e) = ok_is {F = Cause} (Asking exponent size, None) (t.phase, e) h in
    inl (sym (ap (λ (x : Phase × Option Event). x.1) same), sym (ap (λ (x : Phase × Option Event). x.0) same), ap (λ (u : State). u.connected) taken.6)
asking_next s t tpdu e exponent size (Some (Connect cr)) there taken h = absurd (not_both (sym taken.0 ∙ there))
  where
    not_both : false ≡ true → ⊥
    not_both e = cc
asking_next s t tpdu e exponent size (Some (Data octets)) there taken h =
    let i = asked_line exponent size octets (t.phase, e) h in
    inr (inr (line_left exponent size i.0, [], ap (λ (x : Phase × Option Event). x.1) i.1, refl))
asking_next s t tpdu e exponent size (Some Disconnect) there taken h =
    let same : (Ended, Some Aborted) ≡ (t.phase, e) = ok_is {F = Cause} (Ended, Some Aborted) (t.phase, e) h in
    inr (inl (sym (ap (λ (x : Phase × Option Event). x.1) same), sym (ap (λ (x : Phase × Option Event). x.0) same)))

asking_runs : (s t : Stand) (tpdus : List (List ℕ)) (es : List Event) (exponent size : ℕ) → s.phase ≡ Asking exponent size → s.transport.connected ≡ true → Runs s tpdus es t → Accepts exponent es
asking_runs s t [] es exponent size phase there runs = inl runs.0
asking_runs s t (p ∷ ps) es exponent size phase there (on, mid, first, others, step, split, runs) =
    let parts = step_parts s mid p first step in
    by (λ still connected. asking_runs mid t ps others exponent size still connected runs) (asking_next s mid p first exponent size parts.0 there parts.1 (subst (λ (x : Phase). gifts_at x parts.0 ≡ Ok (mid.phase, first)) phase parts.2))
  where
    by : (mid.phase ≡ Asking exponent size → mid.transport.connected ≡ true → Accepts exponent others) → Next exponent size mid first → Accepts exponent es
    by again (inl (none, still, connected)) = subst (Accepts exponent) (sym (split ∙ ap (λ (e : Option Event). option_to_list e ++ others) none)) (again still connected)
    by again (inr (inl (aborted, ended))) = inr (inl (split ∙ ap (λ (e : Option Event). option_to_list e ++ others) aborted ∙ ap (λ (x : List Event). Aborted ∷ x) (ended_runs mid t ps others ended runs)))
    by again (inr (inr (line, o, made, exponents))) = inr (inr (line, o, others, split ∙ ap (λ (e : Option Event). option_to_list e ++ others) made, exponents))

-- ---- the CC is awaited

abbrev Begins : List Event → Type 0
Begins es = (es ≡ []) ⊎ ((es ≡ Aborted ∷ []) ⊎ ((exponent : ℕ) × (more : List Event) × (es ≡ Answer (connect_octets exponent) ∷ more) × Accepts exponent more))

not_both : false ≡ true → ⊥
not_both e = cc

calling_goes : (mid t : Stand) (tpdu : List ℕ) (ps : List (List ℕ)) (e : Option Event) (others : List Event) (given : Option Tsdu) → IsTaken (calling 65000).transport tpdu mid.transport given
    → gifts_at (Calling 65000) given ≡ Ok (mid.phase, e) → Runs mid ps others t → Begins (option_to_list e ++ others)
unfolding tsdu_at connect_at
calling_goes mid t tpdu ps e others None taken h runs = absurd (not_both taken.0)
calling_goes mid t tpdu ps e others (Some (Data octets)) taken h runs = absurd (not_both taken.0)
calling_goes mid t tpdu ps e others (Some Disconnect) taken h runs =
    let same : (Ended, Some Aborted) ≡ (mid.phase, e) = ok_is {F = Cause} (Ended, Some Aborted) (mid.phase, e) h in
    let none = ended_runs mid t ps others (sym (ap (λ (x : Phase × Option Event). x.0) same)) runs in
    inr (inl (ap (λ (x : Option Event). option_to_list x ++ others) (sym (ap (λ (x : Phase × Option Event). x.1) same)) ∙ ap (λ (x : List Event). Aborted ∷ x) none))
calling_goes mid t tpdu ps e others (Some (Connect cr)) taken h runs =
    let same : connect_at (Calling 65000) cr ≡ (mid.phase, e) = ok_is {F = Cause} (connect_at (Calling 65000) cr) (mid.phase, e) h in
    let accepts = asking_runs mid t ps others (exponent_left cr) 65000 (sym (ap (λ (x : Phase × Option Event). x.0) same)) (ap (λ (u : State). u.connected) taken.5) runs in
    inr (inr (exponent_left cr, others, ap (λ (x : Option Event). option_to_list x ++ others) (sym (ap (λ (x : Phase × Option Event). x.1) same)), accepts))

calling_runs : (t : Stand) (tpdus : List (List ℕ)) (es : List Event) → Runs (calling 65000) tpdus es t → Begins es
calling_runs t [] es runs = inl runs.0
calling_runs t (p ∷ ps) es (on, mid, first, others, step, split, runs) =
    let parts = step_parts (calling 65000) mid p first step in
    subst Begins (sym split) (calling_goes mid t p ps first others parts.0 parts.1 parts.2 runs)

-- ---- the line

nil_more : (xs ys : List Event) (y : Event) → xs ++ y ∷ ys ≡ [] → ⊥
nil_more [] ys y e = cc
nil_more (x ∷ xs) ys y e = cc

head_is : (x y : Event) (xs ys : List Event) → x ∷ xs ≡ y ∷ ys → x ≡ y
head_is x y xs ys e = cc

tail_is : (x y : Event) (xs ys : List Event) → x ∷ xs ≡ y ∷ ys → xs ≡ ys
tail_is x y xs ys e = cc

line_is : (l k : Line) (o p : List ℕ) → Connected l o ≡ Connected k p → l ≡ k
line_is l k o p e = cc

connected_aborted : (l : Line) (o : List ℕ) → Connected l o ≡ Aborted → ⊥
connected_aborted l o e = cc

connected_answer : (l : Line) (o p : List ℕ) → Connected l o ≡ Answer p → ⊥
connected_answer l o p e = cc

first_line : (xs after : List Event) (line : Line) (o : List ℕ) (exponent : ℕ) → IsUnconnected xs → Accepts exponent (xs ++ Connected line o ∷ after) → (xs ≡ []) × (line.exponent ≡ exponent)
first_line xs after line o exponent none (inl nil) = absurd (nil_more xs after (Connected line o) nil)
first_line [] after line o exponent none (inr (inl aborted)) = absurd (connected_aborted line o (head_is (Connected line o) Aborted after [] aborted))
first_line (y ∷ ys) after line o exponent none (inr (inl aborted)) = absurd (nil_more ys after (Connected line o) (tail_is y Aborted (ys ++ Connected line o ∷ after) [] aborted))
first_line [] after line o exponent none (inr (inr (l, p, more, is, e))) = (refl, ap (λ (k : Line). k.exponent) (line_is line l o p (head_is (Connected line o) (Connected l p) after more is)) ∙ e)
first_line (y ∷ ys) after line o exponent none (inr (inr (l, p, more, is, e))) =
    absurd (subst (λ (x : Event). IsUnconnected (x ∷ ys)) (head_is y (Connected l p) (ys ++ Connected line o ∷ after) more is) none)

tail_unconnected : (x : Event) (xs : List Event) → IsUnconnected (x ∷ xs) → IsUnconnected xs
tail_unconnected (Answer o) xs h = h
tail_unconnected (Connected line o) xs h = absurd h
tail_unconnected (Pdu p) xs h = h
tail_unconnected (Released o) xs h = h
tail_unconnected Aborted xs h = h

abbrev IsOpening : List Event → Line → Type 0
IsOpening before line = (answers_in before ≡ connect_octets line.exponent) × (pdus_in before ≡ [])

opening_is : (before after : List Event) (line : Line) (o : List ℕ) → IsUnconnected before → Begins (before ++ Connected line o ∷ after) → IsOpening before line
opening_is before after line o none (inl nil) = absurd (nil_more before after (Connected line o) nil)
opening_is [] after line o none (inr (inl aborted)) = absurd (connected_aborted line o (head_is (Connected line o) Aborted after [] aborted))
opening_is (x ∷ xs) after line o none (inr (inl aborted)) = absurd (nil_more xs after (Connected line o) (tail_is x Aborted (xs ++ Connected line o ∷ after) [] aborted))
opening_is [] after line o none (inr (inr (exponent, more, is, accepts))) = absurd (connected_answer line o (connect_octets exponent) (head_is (Connected line o) (Answer (connect_octets exponent)) after more is))
opening_is (x ∷ xs) after line o none (inr (inr (exponent, more, is, accepts))) =
    let head : x ≡ Answer (connect_octets exponent) = head_is x (Answer (connect_octets exponent)) (xs ++ Connected line o ∷ after) more is in
    let tail : xs ++ Connected line o ∷ after ≡ more = tail_is x (Answer (connect_octets exponent)) (xs ++ Connected line o ∷ after) more is in
    let k = first_line xs after line o exponent (tail_unconnected x xs none) (subst (Accepts exponent) (sym tail) accepts) in
    let whole : x ∷ xs ≡ Answer (connect_octets exponent) ∷ [] = ap (λ (y : Event). y ∷ xs) head ∙ ap (λ (ys : List Event). Answer (connect_octets exponent) ∷ ys) k.0 in
    (ap answers_in whole ∙ append-nil (connect_octets exponent) ∙ ap connect_octets (sym k.1), ap pdus_in whole)

pub opened : (octets : List ℕ) (before after : List Event) (line : Line) (o : List ℕ) → IsUnconnected before → CameTo octets (before ++ Connected line o ∷ after) → (answers_in before ≡ connect_octets line.exponent) × (pdus_in before ≡ [])
opened octets before after line o none came = opening_is before after line o none (calling_runs came.0 came.2.tpdus (before ++ Connected line o ∷ after) came.2.runs)
