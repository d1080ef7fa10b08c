-- How what comes of a server follows its stream.
use Rattle.std.proofs.Common.{◌≡◌, ℕ, ◌≤◌, inl, inr, List, [], ◌∷◌, ◌++◌, Option, Some, None, Result, Ok, Err, MatchResult, refl, sym, ap, subst, ◌∙◌, append_assoc, append-nil, arith}
use Rattle.std.specs.Io.KnownBytes.{Consumes, Appends}
use Rattle.std.proofs.KnownBytes.{Consumes-trans, Appends-trans}
use Rattle.sv_io.specs.Causes.{GrowsByFront}
use Rattle.sv_base.specs.declared.value.Value.{Value}
use Rattle.bay_model.specs.declared.report.Report.{Report}
use Rattle.mms_pdu.specs.Reply.{Reply, concluded, information, IsReply}
use Rattle.osi_stack.specs.declared.events.Event.{Event}
use Rattle.osi_stack.specs.declared.events.Event.TheVariants as events
use Rattle.report_cut.specs.declared.part.ReportPart.{ReportPart}
use Rattle.report_cut.specs.Part.{IsReportPart}
use Rattle.report_joining.specs.declared.joining.Begun.{Begun}
use Rattle.report_joining.specs.declared.joining.Joined.{Joined}
use Rattle.report_joining.specs.declared.joining.Joined.TheVariants.{Whole, More}
use Rattle.report_joining.specs.Joining.{IsNext, joined}
use Rattle.mms_client.specs.declared.incoming.Incoming.{Incoming}
use Rattle.mms_client.specs.declared.stream.Stream.{Stream}
use Rattle.mms_client.specs.declared.reports.Reports.{Reports}
use Rattle.mms_client.specs.declared.fault.ClientFault.{ClientFault}
use Rattle.mms_client.specs.declared.fault.ClientFault.TheVariants as faults
use Rattle.mms_client.specs.declared.meaning.Awaited.{Awaited}
use Rattle.mms_client.specs.declared.meaning.Awaited.TheVariants as awaits
use Rattle.mms_client.specs.declared.meaning.Meaning.TheVariants.{Part, Nothing, Came}
use Rattle.mms_client.specs.declared.meaning.Outcome.{Outcome}
use Rattle.mms_client.specs.declared.meaning.Outcome.TheVariants.{Read, Written, Concluded, Released}
use Rattle.mms_client.specs.Arrivals.{Arrivals, no_arrivals, pdus_in, with_reply, with_joined, with_part, Adds, AddsAll}
use Rattle.mms_client.specs.Meaning.{Means, RefusesEvent, Gives}
use Rattle.mms_client.specs.Reports.{KeepsAs, RefusesPart, Heeds, RefusesTaking}
use Rattle.mms_client.specs.Following.{Ends, CameTo, HasCome, Pops, Follows, Goes, GoesOn, IsSame, GoesToReport, GoesToEnd, FailsToEnd, HasRelease, Writes, IsLater, Brings, BringsSome, FailsBy, Failure, FailsFor}
use Rattle.mms_client.proofs.LinkLaws.{Consumes-same, rose_later, front_whole, front_of_first, front_then}
use Rattle.mms_client.proofs.StreamLaws.{come_popped, fails_now}

-- ---- PDUs in order

pub pdus_in-append : (es ds : List Event) → pdus_in (es ++ ds) ≡ pdus_in es ++ pdus_in ds
pdus_in-append [] ds = refl
pdus_in-append (events.Pdu p ∷ es) ds = ap (λ (ps : List (List ℕ)). p ∷ ps) (pdus_in-append es ds)
pdus_in-append (events.Answer o ∷ es) ds = pdus_in-append es ds
pdus_in-append (events.Connected line o ∷ es) ds = pdus_in-append es ds
pdus_in-append (events.Released o ∷ es) ds = pdus_in-append es ds
pdus_in-append (events.Aborted ∷ es) ds = pdus_in-append es ds

pub AddsAll-append : (h k m : Arrivals) (ps qs : List (List ℕ)) → AddsAll h ps k → AddsAll k qs m → AddsAll h (ps ++ qs) m
AddsAll-append h k m [] qs a b = subst (λ (x : Arrivals). AddsAll x qs m) a b
AddsAll-append h k m (p ∷ ps) qs (mid, first, others) b = (mid, first, AddsAll-append mid k m ps qs others b)

-- the arrivals of one more event
pub adds_event : (taken : List Event) (e : Event) (all next : Arrivals) → AddsAll no_arrivals (pdus_in taken) all → AddsAll all (pdus_in (e ∷ [])) next → AddsAll no_arrivals (pdus_in (taken ++ e ∷ [])) next
adds_event taken e all next a b = subst (λ (ps : List (List ℕ)). AddsAll no_arrivals ps next) (sym (pdus_in-append taken (e ∷ []))) (AddsAll-append no_arrivals all next (pdus_in taken) (pdus_in (e ∷ [])) a b)

-- ---- one event

-- the event was taken, and no report
abbrev Takes : Incoming → Incoming → Event → Type 0
Takes old new e = Pops old.stream new.stream e × (new.reports ≡ old.reports)

goes_now : (new : Incoming) (read : List ℕ) (given : List Report) (taken : List Event) (all next : Arrivals) (left now : Option (List ℕ)) (R : List ℕ → Arrivals → Arrivals → Type 0)
    → now ≡ left → Follows new read given taken next → R read all next → Goes new left now read given all R
goes_now new read given taken all next left now R same f says = record {
  more = [];
  consumes = Consumes-same left now same;
  taken = taken;
  next = next;
  follows = subst (λ (o : List ℕ). Follows new o given taken next) (sym (append-nil read)) f;
  says = subst (λ (o : List ℕ). R o all next) (sym (append-nil read)) says;
}

-- the reports wait as before
follows_event : (old new : Incoming) (e : Event) (read : List ℕ) (given : List Report) (taken : List Event) (all next : Arrivals)
    → Takes old new e → AddsAll all (pdus_in (e ∷ [])) next → next.reports ≡ all.reports → next.begun ≡ all.begun
    → Follows old read given taken all → Follows new read given (taken ++ e ∷ []) next
follows_event old new e read given taken all next (pops, same) adds reports begun f = record {
  come = come_popped old.stream new.stream e read taken pops f.come;
  adds = adds_event taken e all next f.adds adds;
  reports = reports ∙ f.reports ∙ ap (λ (r : Reports). given ++ r.whole.items) (sym same);
  begun = begun ∙ f.begun ∙ ap (λ (r : Reports). r.begun) (sym same);
}

adds_one : (h k : Arrivals) (p : List ℕ) → Adds h p k → AddsAll h (p ∷ []) k
adds_one h k p a = (k, a, refl)

nothing_adds : (w : Awaited) (e : Event) (all : Arrivals) → Means w e Nothing → AddsAll all (pdus_in (e ∷ [])) all
nothing_adds w (events.Pdu p) all (reply, none) = adds_one all all p (inr (reply, inr (none, refl)))
nothing_adds w (events.Answer o) all m = refl
nothing_adds w (events.Connected line o) all m = refl
nothing_adds w (events.Released o) all (is, m) = absurd cc
nothing_adds w events.Aborted all m = absurd m

pub nothing_goes : (old new : Incoming) (e : Event) (w : Awaited) (left now : Option (List ℕ)) → now ≡ left → Pops old.stream new.stream e → new.reports ≡ old.reports → Means w e Nothing → GoesOn old new left now (BringsSome w None)
nothing_goes old new e w left now same pops reports m read given taken all f =
    goes_now new read given (taken ++ e ∷ []) all all left now (BringsSome w None) same
    (follows_event old new e read given taken all all (pops, reports) (nothing_adds w e all m) refl refl f) refl

-- ---- a PDU of a report

part_reports : (h : Arrivals) (j : Joined) (given : List Report) (old new : Reports) → KeepsAs j old new → h.reports ≡ given ++ old.whole.items → (with_joined h j).reports ≡ given ++ new.whole.items
part_reports h (Whole r) given old new (items, begun) e = ap (λ (rs : List Report). rs ++ r ∷ []) e ∙ append_assoc given old.whole.items (r ∷ []) ∙ ap (λ (rs : List Report). given ++ rs) (sym items)
part_reports h (More b) given old new (items, begun) e = e ∙ ap (λ (rs : List Report). given ++ rs) (sym items)

part_begun : (h : Arrivals) (j : Joined) (old new : Reports) → KeepsAs j old new → (with_joined h j).begun ≡ new.begun
part_begun h (Whole r) old new (items, begun) = sym begun
part_begun h (More b) old new (items, begun) = sym begun

part_same : (h : Arrivals) (j : Joined) → (with_joined h j).replies ≡ h.replies
part_same h (Whole r) = refl
part_same h (More b) = refl

part_follows : (old new : Incoming) (p : List ℕ) (part : ReportPart) (read : List ℕ) (given : List Report) (taken : List Event) (all : Arrivals)
    → Pops old.stream new.stream (events.Pdu p) → IsReply p (information p) → IsReportPart p part → IsNext old.reports.begun part → KeepsAs (joined old.reports.begun part) old.reports new.reports
    → Follows old read given taken all → Follows new read given (taken ++ events.Pdu p ∷ []) (with_part all part)
part_follows old new p part read given taken all pops reply is next keeps f =
    let next' : IsNext all.begun part = subst (λ (b : Option Begun). IsNext b part) (sym f.begun) next in
    let keeps' : KeepsAs (joined all.begun part) old.reports new.reports = subst (λ (b : Option Begun). KeepsAs (joined b part) old.reports new.reports) (sym f.begun) keeps in
    record {
      come = come_popped old.stream new.stream (events.Pdu p) read taken pops f.come;
      adds = adds_event taken (events.Pdu p) all (with_part all part) f.adds (adds_one all (with_part all part) p (inr (reply, inl (part, is, next', refl))));
      reports = part_reports all (joined all.begun part) given old.reports new.reports keeps' f.reports;
      begun = part_begun all (joined all.begun part) old.reports new.reports keeps';
    }

pub part_goes : (old new : Incoming) (e : Event) (w : Awaited) (part : ReportPart) (left now : Option (List ℕ)) → now ≡ left → Pops old.stream new.stream e → Means w e (Part part)
    → IsNext old.reports.begun part → KeepsAs (joined old.reports.begun part) old.reports new.reports → GoesOn old new left now (BringsSome w None)
part_goes old new (events.Pdu p) w part left now same pops (reply, is) next keeps read given taken all f =
    goes_now new read given (taken ++ events.Pdu p ∷ []) all (with_part all part) left now (BringsSome w None) same
    (part_follows old new p part read given taken all pops reply is next keeps f) (part_same all (joined all.begun part))
part_goes old new (events.Answer o) w part left now same pops m next keeps read given taken all f = absurd cc
part_goes old new (events.Connected line o) w part left now same pops m next keeps read given taken all f = absurd cc
part_goes old new (events.Released o) w part left now same pops (is, m) next keeps read given taken all f = absurd cc
part_goes old new events.Aborted w part left now same pops m next keeps read given taken all f = absurd m

-- ---- what is awaited

release_gives : (w : Awaited) (r : Reply (List ℕ)) → Gives w r Released → ⊥
release_gives (awaits.Read n) r g = g
release_gives (awaits.Write n) r g = g
release_gives awaits.Conclude r g = g
release_gives awaits.Reports r g = g
release_gives awaits.Release r g = g

reply_brings : (w : Awaited) (o : Outcome) (r : Reply (List ℕ)) (octets : List ℕ) (all : Arrivals) → Gives w r o → Brings w o octets all (with_reply all r)
reply_brings w (Read v) r octets all g = (r, refl, g)
reply_brings w (Written v) r octets all g = (r, refl, g)
reply_brings w Concluded r octets all g = (r, refl, g)
reply_brings w Released r octets all g = absurd (release_gives w r g)

came_is : (o u : Outcome) → Came o ≡ Came u → o ≡ u
came_is o u e = cc

pub came_goes : (old new : Incoming) (e : Event) (w : Awaited) (o : Outcome) (left now : Option (List ℕ)) → now ≡ left → Pops old.stream new.stream e → new.reports ≡ old.reports → Means w e (Came o) → GoesOn old new left now (BringsSome w (Some o))
came_goes old new (events.Pdu p) w o left now same pops reports (r, is, to, gives) read given taken all f =
    goes_now new read given (taken ++ events.Pdu p ∷ []) all (with_reply all r) left now (BringsSome w (Some o)) same
    (follows_event old new (events.Pdu p) read given taken all (with_reply all r) (pops, reports) (adds_one all (with_reply all r) p (inl (r, is, to, refl))) refl refl f)
    (reply_brings w o r read all gives)
came_goes old new (events.Answer x) w o left now same pops reports m read given taken all f = absurd cc
came_goes old new (events.Connected line x) w o left now same pops reports m read given taken all f = absurd cc
came_goes old new (events.Released x) w o left now same pops reports (is, m) read given taken all f =
    goes_now new read given (taken ++ events.Released x ∷ []) all all left now (BringsSome w (Some o)) same
    (follows_event old new (events.Released x) read given taken all all (pops, reports) refl refl refl f)
    (subst (λ (u : Outcome). Brings w u read all all) (sym (came_is o Released m))
    (is, refl, (taken, new.stream.waiting.items, x, subst (λ (es : List Event). CameTo read (taken ++ es)) pops.0 f.come.came, f.adds)))
came_goes old new events.Aborted w o left now same pops reports m read given taken all f = absurd m

-- ---- faults

pub event_fails : (old : Incoming) (mid : Stream) (e : Event) (a b : Ends) (w : Awaited) (f : ClientFault) → Consumes a.left b.left [] → Pops old.stream mid e → RefusesEvent w e f → FailsFor old a b w f
event_fails old mid e a b w f none pops refuses read given taken all h =
    fails_now f a b read w none (by_event e f refuses (subst (λ (es : List Event). CameTo read (taken ++ es)) pops.0 h.come.came))
  where
    by_event : (e : Event) (f : ClientFault) → RefusesEvent w e f → CameTo read (taken ++ e ∷ mid.waiting.items) → FailsBy f a b read w
    by_event (events.Pdu p) (faults.Peer layer code) (five, other) came = inr (five, record { before = taken; after = mid.waiting.items; pdu = p; all = all; came = came; adds = h.adds; breaks = inl other })
    by_event (events.Pdu p) (faults.Service class code) declined came = (taken, mid.waiting.items, p, came, declined)
    by_event (events.Pdu p) faults.Memory m came = tt
    by_event (events.Pdu p) faults.Ended m came = absurd m
    by_event (events.Pdu p) faults.ReadFault m came = absurd m
    by_event (events.Pdu p) faults.WriteFault m came = absurd m
    by_event (events.Answer o) f m came = absurd m
    by_event (events.Connected line o) f m came = absurd m
    by_event (events.Released o) f m came = subst (λ (g : ClientFault). FailsBy g a b read w) (sym m) (inr (taken, mid.waiting.items, inr (o, came)))
    by_event events.Aborted f m came = subst (λ (g : ClientFault). FailsBy g a b read w) (sym m) (inr (taken, mid.waiting.items, inl came))

pub part_fails : (old : Incoming) (mid : Stream) (e : Event) (part : ReportPart) (a b : Ends) (w : Awaited) (f : ClientFault) → Consumes a.left b.left [] → Pops old.stream mid e → Means w e (Part part)
    → RefusesPart old.reports.begun part f → FailsFor old a b w f
part_fails old mid (events.Pdu p) part a b w f none pops (reply, is) refuses read given taken all h =
    fails_now f a b read w none (by_fault f refuses (subst (λ (es : List Event). CameTo read (taken ++ es)) pops.0 h.come.came))
  where
    by_fault : (f : ClientFault) → RefusesPart old.reports.begun part f → CameTo read (taken ++ events.Pdu p ∷ mid.waiting.items) → FailsBy f a b read w
    by_fault (faults.Peer layer code) (five, seven, not) came =
        inr (five, record { before = taken; after = mid.waiting.items; pdu = p; all = all; came = came; adds = h.adds; breaks = inr (part, is, subst (λ (b : Option Begun). IsNext b part → ⊥) (sym h.begun) not, seven) })
    by_fault faults.Memory m came = tt
    by_fault (faults.Service class code) m came = absurd m
    by_fault faults.Ended m came = absurd m
    by_fault faults.ReadFault m came = absurd m
    by_fault faults.WriteFault m came = absurd m
part_fails old mid (events.Answer o) part a b w f none pops m refuses read given taken all h = absurd cc
part_fails old mid (events.Connected line o) part a b w f none pops m refuses read given taken all h = absurd cc
part_fails old mid (events.Released o) part a b w f none pops (is, m) refuses read given taken all h = absurd cc
part_fails old mid events.Aborted part a b w f none pops m refuses read given taken all h = absurd m

-- ---- an event, and a piece

pub event_goes : (old new : Incoming) (e : Event) (a b : Ends) (w : Awaited) (r : Result (Option Outcome) ClientFault) → b.left ≡ a.left → Pops old.stream new.stream e
    → MatchResult r (λ o. Heeds w e old.reports new.reports o) (λ f. RefusesTaking w e old.reports f)
    → MatchResult r (λ o. GoesOn old new a.left b.left (BringsSome w o)) (λ f. FailsFor old a b w f)
event_goes old new e a b w (Ok None) same pops (inl (m, kept)) = nothing_goes old new e w a.left b.left same pops kept m
event_goes old new e a b w (Ok None) same pops (inr (part, m, next, keeps)) = part_goes old new e w part a.left b.left same pops m next keeps
event_goes old new e a b w (Ok (Some o)) same pops (m, kept) = came_goes old new e w o a.left b.left same pops kept m
event_goes old new e a b w (Err f) same pops (inl refuses) = event_fails old new.stream e a b w f (Consumes-same a.left b.left same) pops refuses
event_goes old new e a b w (Err f) same pops (inr (part, m, refuses)) = part_fails old new.stream e part a b w f (Consumes-same a.left b.left same) pops m refuses

-- ---- one after the other

abbrev pub Quiet : List ℕ → Arrivals → Arrivals → Type 0
Quiet octets h k = IsSame h k

pub quiet_now : (old new : Incoming) (left now : Option (List ℕ)) → new ≡ old → now ≡ left → GoesOn old new left now Quiet
quiet_now old new left now same still read given taken all f =
    goes_now new read given taken all all left now Quiet still (subst (λ (i : Incoming). Follows i read given taken all) (sym same) f) refl

brings_after : (w : Awaited) (o : Outcome) (octets : List ℕ) (h m k : Arrivals) → IsSame h m → Brings w o octets m k → Brings w o octets h k
brings_after w (Read v) octets h m k same (r, newest, g) = (r, newest ∙ ap (λ (rs : List (Reply (List ℕ))). rs ++ r ∷ []) same, g)
brings_after w (Written v) octets h m k same (r, newest, g) = (r, newest ∙ ap (λ (rs : List (Reply (List ℕ))). rs ++ r ∷ []) same, g)
brings_after w Concluded octets h m k same (r, newest, g) = (r, newest ∙ ap (λ (rs : List (Reply (List ℕ))). rs ++ r ∷ []) same, g)
brings_after w Released octets h m k same (is, still, release) = (is, still ∙ same, release)

goes_then : (old mid new : Incoming) (left between now : Option (List ℕ)) (R : List ℕ → Arrivals → Arrivals → Type 0)
    → ((octets : List ℕ) (h m k : Arrivals) → IsSame h m → R octets m k → R octets h k)
    → GoesOn old mid left between Quiet → GoesOn mid new between now R → GoesOn old new left now R
goes_then old mid new left between now R after first second read given taken all f =
    let a = first read given taken all f in
    let b = second (read ++ a.more) given a.taken a.next a.follows in
    record {
      more = a.more ++ b.more;
      consumes = Consumes-trans left between now a.more b.more a.consumes b.consumes;
      taken = b.taken;
      next = b.next;
      follows = subst (λ (o : List ℕ). Follows new o given b.taken b.next) (append_assoc read a.more b.more) b.follows;
      says = subst (λ (o : List ℕ). R o all b.next) (append_assoc read a.more b.more) (after ((read ++ a.more) ++ b.more) all a.next b.next a.says b.says);
    }

pub quiet_then : (old mid new : Incoming) (left between now : Option (List ℕ)) → GoesOn old mid left between Quiet → GoesOn mid new between now Quiet → GoesOn old new left now Quiet
quiet_then old mid new left between now = goes_then old mid new left between now Quiet (λ octets h m k same still. still ∙ same)

pub brings_then : (old mid new : Incoming) (left between now : Option (List ℕ)) (w : Awaited) (o : Outcome) → GoesOn old mid left between Quiet → GoesOn mid new between now (Brings w o) → GoesOn old new left now (Brings w o)
brings_then old mid new left between now w o = goes_then old mid new left between now (Brings w o) (brings_after w o)

-- the counts of another call before don't matter
pub fails_by : (f : ClientFault) (a m b : Ends) (read : List ℕ) (w : Awaited) → a.reads ≤ m.reads → a.writes ≤ m.writes → FailsBy f m b read w → FailsBy f a b read w
fails_by faults.ReadFault a m b read w reads writes h = rose_later a.reads m.reads b.reads reads h
fails_by faults.WriteFault a m b read w reads writes h = rose_later a.writes m.writes b.writes writes h
fails_by faults.Ended a m b read w reads writes h = h
fails_by (faults.Peer layer code) a m b read w reads writes h = h
fails_by (faults.Service class code) a m b read w reads writes h = h
fails_by faults.Memory a m b read w reads writes h = h

-- more octets were read before
pub failure_after : (f : ClientFault) (a m b : Ends) (read more : List ℕ) (w : Awaited) → Consumes a.left m.left more → a.reads ≤ m.reads → a.writes ≤ m.writes → Failure f m b (read ++ more) w → Failure f a b read w
failure_after f a m b read more w consumes reads writes h = record {
  more = more ++ h.more;
  consumes = Consumes-trans a.left m.left b.left more h.more consumes h.consumes;
  by = subst (λ (o : List ℕ). FailsBy f a b o w) (append_assoc read more h.more) (fails_by f a m b ((read ++ more) ++ h.more) w reads writes h.by);
}

pub fails_then : (old mid : Incoming) (a m b : Ends) (w : Awaited) (f : ClientFault) → GoesOn old mid a.left m.left Quiet → a.reads ≤ m.reads → a.writes ≤ m.writes → FailsFor mid m b w f → FailsFor old a b w f
fails_then old mid a m b w f first reads writes second read given taken all h =
    let x = first read given taken all h in
    failure_after f a m b read x.more w x.consumes reads writes (second (read ++ x.more) given x.taken x.next x.follows)

-- ---- waiting

pub nothing_yet : (old new : Incoming) (left now : Option (List ℕ)) (w : Awaited) (o : Option Outcome) → ((x : Outcome) → o ≡ Some x → ⊥) → GoesOn old new left now (BringsSome w o) → GoesOn old new left now Quiet
nothing_yet old new left now w None none goes = goes
nothing_yet old new left now w (Some x) none goes = absurd (none x refl)

pub came_now : (old new : Incoming) (left now : Option (List ℕ)) (w : Awaited) (o : Option Outcome) (x : Outcome) → o ≡ Some x → GoesOn old new left now (BringsSome w o) → GoesOn old new left now (Brings w x)
came_now old new left now w o x is goes = subst (λ (y : Option Outcome). GoesOn old new left now (BringsSome w y)) is goes

goes_map : (old new : Incoming) (left now : Option (List ℕ)) (R S : List ℕ → Arrivals → Arrivals → Type 0) → ((octets : List ℕ) (h k : Arrivals) → R octets h k → S octets h k)
    → GoesOn old new left now R → GoesOn old new left now S
goes_map old new left now R S f goes read given taken all h =
    let x = goes read given taken all h in
    record { more = x.more; consumes = x.consumes; taken = x.taken; next = x.next; follows = x.follows; says = f (read ++ x.more) all x.next x.says }

reports_bring : (o : Option Outcome) (octets : List ℕ) (h k : Arrivals) → BringsSome awaits.Reports o octets h k → IsSame h k
reports_bring None octets h k same = same
reports_bring (Some (Read v)) octets h k (r, newest, g) = absurd g
reports_bring (Some (Written v)) octets h k (r, newest, g) = absurd g
reports_bring (Some Concluded) octets h k (r, newest, g) = absurd g
reports_bring (Some Released) octets h k (is, same, release) = same

pub reports_quiet : (old new : Incoming) (left now : Option (List ℕ)) (o : Option Outcome) → GoesOn old new left now (BringsSome awaits.Reports o) → GoesOn old new left now Quiet
reports_quiet old new left now o = goes_map old new left now (BringsSome awaits.Reports o) Quiet (reports_bring o)

-- the same reports wait
pub kept_goes : (old mid new : Incoming) (left now : Option (List ℕ)) → new.stream ≡ mid.stream → new.reports.whole.items ≡ mid.reports.whole.items → new.reports.begun ≡ mid.reports.begun
    → GoesOn old mid left now Quiet → GoesOn old new left now Quiet
kept_goes old mid new left now stream items begun goes read given taken all h =
    let x = goes read given taken all h in
    let f = x.follows in
    record {
      more = x.more;
      consumes = x.consumes;
      taken = x.taken;
      next = x.next;
      follows = record {
        come = subst (λ (s : Stream). HasCome s (read ++ x.more) x.taken) (sym stream) f.come;
        adds = f.adds;
        reports = f.reports ∙ ap (λ (rs : List Report). given ++ rs) (sym items);
        begun = f.begun ∙ sym begun;
      };
      says = x.says;
    }

-- the first report that waits is given
pub given_goes : (old mid new : Incoming) (left now : Option (List ℕ)) (r : Report) → new.stream ≡ mid.stream → mid.reports.whole.items ≡ r ∷ new.reports.whole.items → new.reports.begun ≡ mid.reports.begun
    → GoesOn old mid left now Quiet → GoesToReport old new left now r
given_goes old mid new left now r stream items begun goes read given taken all h =
    let x = goes read given taken all h in
    let f = x.follows in
    record {
      more = x.more;
      consumes = x.consumes;
      taken = x.taken;
      next = x.next;
      follows = record {
        come = subst (λ (s : Stream). HasCome s (read ++ x.more) x.taken) (sym stream) f.come;
        adds = f.adds;
        reports = f.reports ∙ ap (λ (rs : List Report). given ++ rs) items ∙ sym (append_assoc given (r ∷ []) new.reports.whole.items);
        begun = f.begun ∙ sym begun;
      };
      same = x.says;
    }

-- ---- an exchange

pub exchange_goes : (old new : Incoming) (a m b : Ends) (w : Awaited) (r : Result Outcome ClientFault) → m.left ≡ a.left → m.reads ≡ a.reads → a.writes ≤ m.writes
    → MatchResult r (λ o. GoesOn old new m.left b.left (Brings w o)) (λ f. FailsFor old m b w f)
    → MatchResult r (λ o. GoesOn old new a.left b.left (Brings w o)) (λ f. FailsFor old a b w f)
exchange_goes old new a m b w (Ok o) left reads writes goes = subst (λ (x : Option (List ℕ)). GoesOn old new x b.left (Brings w o)) left goes
exchange_goes old new a m b w (Err f) left reads writes fails = fails_then old old a m b w f (quiet_now old old a.left m.left refl left) (omega arith) writes fails

pub exchange_writes : (a m b : Ends) (octets : List ℕ) (r : Result Outcome ClientFault) → Appends a.taken m.taken octets → b.taken ≡ m.taken → Writes a b octets r
exchange_writes a m b octets (Ok o) sent same = subst (λ (x : Option (List ℕ)). Appends a.taken x octets) (sym same) sent
exchange_writes a m b octets (Err f) sent same = front_whole a.taken b.taken octets (subst (λ (x : Option (List ℕ)). Appends a.taken x octets) (sym same) sent)

-- ---- another outcome than what is awaited

read_release : (n : ℕ) → awaits.Read n ≡ awaits.Release → ⊥
read_release n e = cc

write_release : (n : ℕ) → awaits.Write n ≡ awaits.Release → ⊥
write_release n e = cc

pub other_read : (old new : Incoming) (a b : Ends) (n : ℕ) (f : ClientFault) (o : Outcome) → ((v : Result Value ℕ) → o ≡ Read v → ⊥) → GoesOn old new a.left b.left (Brings (awaits.Read n) o) → FailsFor old a b (awaits.Read n) f
other_read old new a b n f (Read v) none goes = absurd (none v refl)
other_read old new a b n f (Written v) none goes = λ read given taken all h. absurd (goes read given taken all h).says.2
other_read old new a b n f Concluded none goes = λ read given taken all h. absurd (goes read given taken all h).says.2
other_read old new a b n f Released none goes = λ read given taken all h. absurd (read_release n (goes read given taken all h).says.0)

pub other_write : (old new : Incoming) (a b : Ends) (n : ℕ) (f : ClientFault) (o : Outcome) → ((v : Result (Unit {0}) ℕ) → o ≡ Written v → ⊥) → GoesOn old new a.left b.left (Brings (awaits.Write n) o) → FailsFor old a b (awaits.Write n) f
other_write old new a b n f (Written v) none goes = absurd (none v refl)
other_write old new a b n f (Read v) none goes = λ read given taken all h. absurd (goes read given taken all h).says.2
other_write old new a b n f Concluded none goes = λ read given taken all h. absurd (goes read given taken all h).says.2
other_write old new a b n f Released none goes = λ read given taken all h. absurd (write_release n (goes read given taken all h).says.0)

-- ---- the end

concluded_by : (w : Awaited) (o : Outcome) (octets : List ℕ) (h k : Arrivals) → w ≡ awaits.Conclude → Brings w o octets h k → k.replies ≡ h.replies ++ concluded ∷ []
concluded_by awaits.Conclude Concluded octets h k is (r, newest, g) = newest ∙ ap (λ (x : Reply (List ℕ)). h.replies ++ x ∷ []) g
concluded_by awaits.Conclude (Read v) octets h k is (r, newest, g) = absurd g
concluded_by awaits.Conclude (Written v) octets h k is (r, newest, g) = absurd g
concluded_by awaits.Conclude Released octets h k is (e, same, release) = absurd cc
concluded_by (awaits.Read n) o octets h k is b = absurd cc
concluded_by (awaits.Write n) o octets h k is b = absurd cc
concluded_by awaits.Reports o octets h k is b = absurd cc
concluded_by awaits.Release o octets h k is b = absurd cc

released_by : (o : Outcome) (octets : List ℕ) (h k : Arrivals) → Brings awaits.Release o octets h k → IsSame h k × HasRelease octets k
released_by Released octets h k (is, same, release) = (same, release)
released_by (Read v) octets h k (r, newest, g) = absurd g
released_by (Written v) octets h k (r, newest, g) = absurd g
released_by Concluded octets h k (r, newest, g) = absurd g

pub end_memory : (old mid : Incoming) (a b : Ends) (o : Outcome) (conclude finish : List ℕ) → GoesOn old mid a.left b.left (Brings awaits.Conclude o) → Appends a.taken b.taken conclude → FailsToEnd old a b conclude finish faults.Memory
end_memory old mid a b o conclude finish goes sent = inr (fails, front_of_first a.taken b.taken conclude finish (front_whole a.taken b.taken conclude sent))
  where
    fails : FailsFor old a b awaits.Release faults.Memory
    fails read given taken all h =
        let x = goes read given taken all h in
        record { more = x.more; consumes = x.consumes; by = tt }

pub end_fails : (old mid : Incoming) (a m b : Ends) (o : Outcome) (conclude finish : List ℕ) (f : ClientFault) → IsLater a m → GoesOn old mid a.left m.left (Brings awaits.Conclude o) → Appends a.taken m.taken conclude
    → FailsFor mid m b awaits.Release f → GrowsByFront m.taken b.taken finish → FailsToEnd old a b conclude finish f
end_fails old mid a m b o conclude finish f later goes sent fails front = inr (fails', front_then a.taken m.taken b.taken conclude finish sent front)
  where
    fails' : FailsFor old a b awaits.Release f
    fails' read given taken all h =
        let x = goes read given taken all h in
        failure_after f a m b read x.more awaits.Release x.consumes later.0 later.1 (fails (read ++ x.more) given x.taken x.next x.follows)

pub end_goes : (old mid new : Incoming) (a m b : Ends) (o u : Outcome) (conclude finish : List ℕ) → GoesOn old mid a.left m.left (Brings awaits.Conclude o) → Appends a.taken m.taken conclude
    → GoesOn mid new m.left b.left (Brings awaits.Release u) → Appends m.taken b.taken finish → GoesToEnd old a b (conclude ++ finish)
end_goes old mid new a m b o u conclude finish first sent second finished read given taken all h =
    let x = first read given taken all h in
    let y = second (read ++ x.more) given x.taken x.next x.follows in
    let r = released_by u ((read ++ x.more) ++ y.more) x.next y.next y.says in
    record {
      more = x.more ++ y.more;
      consumes = Consumes-trans a.left m.left b.left x.more y.more x.consumes y.consumes;
      writes = Appends-trans a.taken m.taken b.taken conclude finish sent finished;
      next = y.next;
      newest = r.0 ∙ concluded_by awaits.Conclude o (read ++ x.more) all x.next refl x.says;
      release = subst (λ (t : List ℕ). HasRelease t y.next) (append_assoc read x.more y.more) r.1;
    }
