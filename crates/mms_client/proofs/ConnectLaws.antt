-- How the events of an opening are answered.
use Rattle.std.proofs.Common.{◌≡◌, ℕ, ◌≤◌, inl, inr, List, [], ◌∷◌, ◌++◌, Option, Some, None, refl, sym, ap, subst, ◌∙◌, append_assoc, append-nil, ◌⊎◌, arith}
use Rattle.std.specs.Io.KnownBytes.{Consumes, Appends}
use Rattle.std.proofs.KnownBytes.{Consumes-trans, Appends-trans}
use Rattle.tpkt_cotp.specs.Written.{call_of}
use Rattle.osi_stack.specs.declared.events.Event.{Event}
use Rattle.osi_stack.specs.declared.events.Event.TheVariants.{Answer, Connected, Pdu, Released, Aborted}
use Rattle.osi_stack.specs.declared.events.Line.{Line}
use Rattle.mms_client.specs.declared.stream.Stream.{Stream}
use Rattle.mms_client.specs.declared.fault.ClientFault.{ClientFault}
use Rattle.mms_client.specs.declared.fault.ClientFault.TheVariants as faults
use Rattle.mms_client.specs.declared.meaning.Awaited.TheVariants as awaits
use Rattle.mms_client.specs.Requests.{connect_octets}
use Rattle.mms_client.specs.Arrivals.{pdus_in}
use Rattle.mms_client.specs.Following.{Ends, IsLater, CameTo, HasCome, Pops, HasNone, HasRead, Failure}
use Rattle.mms_client.specs.Opening.{answers_in, IsUnconnected, IsAt, StepsOn, FailsToOpen, Opens}
use Rattle.mms_client.proofs.LinkLaws.{Consumes-same, Appends-same}
use Rattle.mms_client.proofs.StreamLaws.{come_popped, come_none, fails_now}
use Rattle.mms_client.proofs.FollowLaws.{pdus_in-append, failure_after}
use Rattle.mms_client.proofs.OpeningLaws.{opened}

answers_in-append : (es ds : List Event) → answers_in (es ++ ds) ≡ answers_in es ++ answers_in ds
answers_in-append [] ds = refl
answers_in-append (Answer o ∷ es) ds = ap (λ (x : List ℕ). o ++ x) (answers_in-append es ds) ∙ sym (append_assoc o (answers_in es) (answers_in ds))
answers_in-append (Connected line o ∷ es) ds = answers_in-append es ds
answers_in-append (Pdu p ∷ es) ds = answers_in-append es ds
answers_in-append (Released o ∷ es) ds = answers_in-append es ds
answers_in-append (Aborted ∷ es) ds = answers_in-append es ds

unconnected-append : (es ds : List Event) → IsUnconnected es → IsUnconnected ds → IsUnconnected (es ++ ds)
unconnected-append [] ds a b = b
unconnected-append (Answer o ∷ es) ds a b = unconnected-append es ds a b
unconnected-append (Connected line o ∷ es) ds a b = absurd a
unconnected-append (Pdu p ∷ es) ds a b = unconnected-append es ds a b
unconnected-append (Released o ∷ es) ds a b = unconnected-append es ds a b
unconnected-append (Aborted ∷ es) ds a b = unconnected-append es ds a b

-- ---- one event

steps_event : (old new : Stream) (e : Event) (a b : Ends) (line : Option Line) → Pops old new e → b.left ≡ a.left → Appends a.taken b.taken (answers_in (e ∷ []))
    → ((taken : List Event) → IsUnconnected taken → IsAt (taken ++ e ∷ []) line) → StepsOn old new a b line
steps_event old new e a b line pops same sent at read taken h none = record {
  more = [];
  consumes = Consumes-same a.left b.left same;
  sent = answers_in (e ∷ []);
  writes = sent;
  now = taken ++ e ∷ [];
  come = subst (λ (o : List ℕ). HasCome new o (taken ++ e ∷ [])) (sym (append-nil read)) (come_popped old new e read taken pops h);
  answers = answers_in-append taken (e ∷ []);
  connected = at taken none;
}

pub steps_answer : (old new : Stream) (o : List ℕ) (a b : Ends) → Pops old new (Answer o) → b.left ≡ a.left → Appends a.taken b.taken o → StepsOn old new a b None
steps_answer old new o a b pops same sent =
    steps_event old new (Answer o) a b None pops same (subst (λ (x : List ℕ). Appends a.taken b.taken x) (sym (append-nil o)) sent) (λ taken none. unconnected-append taken (Answer o ∷ []) none tt)

pub steps_line : (old new : Stream) (line : Line) (o : List ℕ) (a b : Ends) → Pops old new (Connected line o) → b.left ≡ a.left → b.taken ≡ a.taken → StepsOn old new a b (Some line)
steps_line old new line o a b pops same still = steps_event old new (Connected line o) a b (Some line) pops same (Appends-same a.taken b.taken still) (λ taken none. (taken, o, none, refl))

pub steps_pdu : (old new : Stream) (p : List ℕ) (a b : Ends) → Pops old new (Pdu p) → b.left ≡ a.left → b.taken ≡ a.taken → StepsOn old new a b None
steps_pdu old new p a b pops same still = steps_event old new (Pdu p) a b None pops same (Appends-same a.taken b.taken still) (λ taken none. unconnected-append taken (Pdu p ∷ []) none tt)

pub steps_piece : (old mid new : Stream) (a b : Ends) → HasNone old mid → ((read : List ℕ) (taken : List Event) → HasCome mid read taken → HasRead new a.left b.left read taken) → b.taken ≡ a.taken → StepsOn old new a b None
steps_piece old mid new a b none reads still read taken h unconnected =
    let x = reads read taken (come_none old mid read taken none h) in
    record { more = x.more; consumes = x.consumes; sent = []; writes = Appends-same a.taken b.taken still; now = taken; come = x.come; answers = sym (append-nil (answers_in taken)); connected = unconnected }

pub open_ended : (old mid : Stream) (e : Event) (a b : Ends) → ((o : List ℕ) × (e ≡ Released o)) ⊎ (e ≡ Aborted) → Pops old mid e → b.left ≡ a.left → FailsToOpen old a b faults.Ended
open_ended old mid e a b is pops same read taken h none =
    fails_now faults.Ended a b read awaits.Reports (Consumes-same a.left b.left same) (inr (taken, mid.waiting.items, by is (subst (λ (es : List Event). CameTo read (taken ++ es)) pops.0 h.came)))
  where
    by : ((o : List ℕ) × (e ≡ Released o)) ⊎ (e ≡ Aborted) → CameTo read (taken ++ e ∷ mid.waiting.items)
        → CameTo read (taken ++ Aborted ∷ mid.waiting.items) ⊎ ((o : List ℕ) × CameTo read (taken ++ Released o ∷ mid.waiting.items))
    by (inl (o, released)) came = inr (o, subst (λ (x : Event). CameTo read (taken ++ x ∷ mid.waiting.items)) released came)
    by (inr aborted) came = inl (subst (λ (x : Event). CameTo read (taken ++ x ∷ mid.waiting.items)) aborted came)

-- ---- one after the other

pub steps_none : (s : Stream) (a b : Ends) → b.left ≡ a.left → b.taken ≡ a.taken → StepsOn s s a b None
steps_none s a b same still read taken h none = record {
  more = [];
  consumes = Consumes-same a.left b.left same;
  sent = [];
  writes = Appends-same a.taken b.taken still;
  now = taken;
  come = subst (λ (o : List ℕ). HasCome s o taken) (sym (append-nil read)) h;
  answers = sym (append-nil (answers_in taken));
  connected = none;
}

pub steps_then : (old mid new : Stream) (a m b : Ends) (line : Option Line) → StepsOn old mid a m None → StepsOn mid new m b line → StepsOn old new a b line
steps_then old mid new a m b line first second read taken h none =
    let x = first read taken h none in
    let y = second (read ++ x.more) x.now x.come x.connected in
    record {
      more = x.more ++ y.more;
      consumes = Consumes-trans a.left m.left b.left x.more y.more x.consumes y.consumes;
      sent = x.sent ++ y.sent;
      writes = Appends-trans a.taken m.taken b.taken x.sent y.sent x.writes y.writes;
      now = y.now;
      come = subst (λ (o : List ℕ). HasCome new o y.now) (append_assoc read x.more y.more) y.come;
      answers = y.answers ∙ ap (λ (o : List ℕ). o ++ y.sent) x.answers ∙ append_assoc (answers_in taken) x.sent y.sent;
      connected = y.connected;
    }

pub open_then : (old mid : Stream) (a m b : Ends) (f : ClientFault) → StepsOn old mid a m None → IsLater a m → FailsToOpen mid m b f → FailsToOpen old a b f
open_then old mid a m b f first later fails read taken h none =
    let x = first read taken h none in
    failure_after f a m b read x.more awaits.Reports x.consumes later.0 later.1 (fails (read ++ x.more) x.now x.come x.connected)

-- ---- all of it

pub opens : (old new : Stream) (line : Line) (a m b : Ends) → HasCome old [] [] → m.left ≡ a.left → Appends a.taken m.taken (call_of 1) → StepsOn old new m b (Some line) → Opens new line a b
opens old new line a m b start same sent steps =
    let x = steps [] [] start tt in
    let before = x.connected.0 in
    let is : x.now ≡ before ++ Connected line x.connected.1 ∷ [] = x.connected.3 in
    let came : CameTo x.more (before ++ Connected line x.connected.1 ∷ new.waiting.items) =
    subst (CameTo x.more) (ap (λ (es : List Event). es ++ new.waiting.items) is ∙ append_assoc before (Connected line x.connected.1 ∷ []) new.waiting.items) x.come.came in
    let o = opened x.more before new.waiting.items line x.connected.1 x.connected.2 came in
    let octets : x.sent ≡ connect_octets line.exponent = sym x.answers ∙ ap answers_in is ∙ answers_in-append before (Connected line x.connected.1 ∷ []) ∙ append-nil (answers_in before) ∙ o.0 in
    record {
      read = x.more;
      consumes = subst (λ (l : Option (List ℕ)). Consumes l b.left x.more) same x.consumes;
      writes = subst (λ (t : List ℕ). Appends a.taken b.taken (call_of 1 ++ t)) octets (Appends-trans a.taken m.taken b.taken (call_of 1) x.sent sent x.writes);
      taken = x.now;
      come = x.come;
      none = ap pdus_in is ∙ pdus_in-append before (Connected line x.connected.1 ∷ []) ∙ append-nil (pdus_in before) ∙ o.1;
    }

pub open_fails : (old : Stream) (f : ClientFault) (a m b : Ends) → HasCome old [] [] → m.left ≡ a.left → m.reads ≡ a.reads → a.writes ≤ m.writes → FailsToOpen old m b f → Failure f a b [] awaits.Reports
open_fails old f a m b start same reads writes fails = failure_after f a m b [] [] awaits.Reports (Consumes-same a.left m.left same) (omega arith) writes (fails [] [] start tt)
