-- How a client follows its server's stream: the events that were taken of the octets read, and what their PDUs came to.
use Rattle.std.specs.Prelude.{◌≡◌, ◌⊎◌, ℕ, suc, ◌≤◌, length, List, [], ◌∷◌, ◌++◌, Option, Some, None, Result, Ok, Err}
use Rattle.std.specs.Io.KnownBytes.{Consumes, Appends, IsAtEnd}
use Rattle.sv_io.specs.Causes.{Rose, GrowsByFront}
use Rattle.bay_model.specs.declared.report.Report.{Report}
use Rattle.mms_pdu.specs.Reply.{Reply, concluded}
use Rattle.osi_stack.specs.declared.cause.Cause.{Cause}
use Rattle.osi_stack.specs.declared.events.Event.{Event}
use Rattle.osi_stack.specs.declared.events.Event.TheVariants as events
use Rattle.osi_stack.specs.declared.fault.StackFault.{StackFault}
use Rattle.osi_stack.specs.Stream.{calling, IsRefused}
use Rattle.osi_stack.specs.Standing.{Gave, IsRefusedAt}
use Rattle.osi_stack.specs.Sides.{CallsFor}
use Rattle.report_cut.specs.declared.part.ReportPart.{ReportPart}
use Rattle.report_cut.specs.Part.{IsReportPart}
use Rattle.report_joining.specs.Joining.{IsNext}
use Rattle.mms_client.specs.declared.association.Association.{Association}
use Rattle.mms_client.specs.declared.incoming.Incoming.{Incoming}
use Rattle.mms_client.specs.declared.stream.Stream.{Stream}
use Rattle.mms_client.specs.declared.fault.ClientFault.{ClientFault}
use Rattle.mms_client.specs.declared.fault.ClientFault.TheVariants as faults
use Rattle.mms_client.specs.declared.meaning.Awaited.{Awaited}
use Rattle.mms_client.specs.declared.meaning.Awaited.TheVariants as awaits
use Rattle.mms_client.specs.declared.meaning.Outcome.{Outcome}
use Rattle.mms_client.specs.declared.meaning.Outcome.TheVariants.{Read, Written, Concluded, Released}
use Rattle.mms_client.specs.Arrivals.{Arrivals, no_arrivals, pdus_in, AddsAll}
use Rattle.mms_client.specs.Requests.{number_after}
use Rattle.mms_client.specs.Meaning.{Gives, IsOther, IsDeclined}

-- ---- links

-- what is told of a link, and its counts of failed reads and writes
pub record Ends : Type 0 where
  pub left : Option (List ℕ)
  pub taken : Option (List ℕ)
  pub reads : ℕ
  pub writes : ℕ

abbrev pub ends : Option (List ℕ) → Option (List ℕ) → ℕ → ℕ → Ends
ends left taken reads writes = record { left = left; taken = taken; reads = reads; writes = writes }

-- a read changed nothing but what is left
abbrev pub OnlyReads : Ends → Ends → Type 0
OnlyReads a b = (a.reads ≤ b.reads) × (b.taken ≡ a.taken) × (b.writes ≡ a.writes)

-- the counts don't fall
abbrev pub IsLater : Ends → Ends → Type 0
IsLater a b = (a.reads ≤ b.reads) × (a.writes ≤ b.writes)

-- the octets were written, or, where the call failed, no more than a front of them
abbrev pub Writes : {T : Type 0} → Ends → Ends → List ℕ → Result T ClientFault → Type 0
Writes a b octets (Ok x) = Appends a.taken b.taken octets
Writes a b octets (Err f) = GrowsByFront a.taken b.taken octets

-- ---- what was read

-- the octets came to these events
abbrev pub CameTo : List ℕ → List Event → Type 0
CameTo octets events = Gave (calling 65000) octets events

-- The octets read came to the events that were taken and to those that wait after them, and the stack stands for them. Or
-- it has stopped there: a layer refuses the octets, or there was no memory.
pub record HasCome (s : Stream) (read : List ℕ) (taken : List Event) : Type 0 where
  pub came : CameTo read (taken ++ s.waiting.items)
  pub stands : s.stopped ≡ None → CallsFor s.caller 65000 read (taken ++ s.waiting.items)
  pub stops : (f : StackFault) → s.stopped ≡ Some f → IsRefusedAt f (calling 65000) read (taken ++ s.waiting.items)

-- the first of the events that wait is taken
abbrev pub Pops : Stream → Stream → Event → Type 0
Pops old new e = (old.waiting.items ≡ e ∷ new.waiting.items) × (new.caller ≡ old.caller) × (new.stopped ≡ old.stopped)

-- none waits
abbrev pub HasNone : Stream → Stream → Type 0
HasNone old new = (old.waiting.items ≡ []) × (new.waiting.items ≡ []) × (new.caller ≡ old.caller) × (new.stopped ≡ old.stopped)

-- the same events were taken of octets that go on with those read
pub record HasRead (new : Stream) (left now : Option (List ℕ)) (read : List ℕ) (taken : List Event) : Type 0 where
  pub more : List ℕ
  pub consumes : Consumes left now more
  pub come : HasCome new (read ++ more) taken

-- The PDUs taken came to these arrivals: all reports but those that were given wait.
pub record Follows (i : Incoming) (read : List ℕ) (given : List Report) (taken : List Event) (all : Arrivals) : Type 0 where
  pub come : HasCome i.stream read taken
  pub adds : AddsAll no_arrivals (pdus_in taken) all
  pub reports : all.reports ≡ given ++ i.reports.whole.items
  pub begun : all.begun ≡ i.reports.begun

-- more octets were read, and R says what they added
pub record Goes (new : Incoming) (left now : Option (List ℕ)) (read : List ℕ) (given : List Report) (all : Arrivals) (R : List ℕ → Arrivals → Arrivals → Type 0) : Type 0 where
  pub more : List ℕ
  pub consumes : Consumes left now more
  pub taken : List Event
  pub next : Arrivals
  pub follows : Follows new (read ++ more) given taken next
  pub says : R (read ++ more) all next

abbrev pub GoesOn : Incoming → Incoming → Option (List ℕ) → Option (List ℕ) → (List ℕ → Arrivals → Arrivals → Type 0) → Type 0
GoesOn old new left now R = (read : List ℕ) (given : List Report) (taken : List Event) (all : Arrivals) → Follows old read given taken all → Goes new left now read given all R

-- no reply came
abbrev pub IsSame : Arrivals → Arrivals → Type 0
IsSame h k = k.replies ≡ h.replies

-- at most 1024 reports wait
abbrev pub IsBounded : Incoming → Type 0
IsBounded i = length i.reports.whole.items ≤ 1024

-- more octets were read, and one more report was given
pub record HasGiven (new : Incoming) (left now : Option (List ℕ)) (read : List ℕ) (given : List Report) (all : Arrivals) (report : Report) : Type 0 where
  pub more : List ℕ
  pub consumes : Consumes left now more
  pub taken : List Event
  pub next : Arrivals
  pub follows : Follows new (read ++ more) (given ++ report ∷ []) taken next
  pub same : IsSame all next

abbrev pub GoesToReport : Incoming → Incoming → Option (List ℕ) → Option (List ℕ) → Report → Type 0
GoesToReport old new left now report = (read : List ℕ) (given : List Report) (taken : List Event) (all : Arrivals) → Follows old read given taken all → HasGiven new left now read given all report

-- ---- what came

-- the octets came to a release after these arrivals
abbrev pub HasRelease : List ℕ → Arrivals → Type 0
HasRelease octets all = (before after : List Event) × (o : List ℕ) × CameTo octets (before ++ events.Released o ∷ after) × AddsAll no_arrivals (pdus_in before) all

-- one more reply came, and it is this that comes of it
abbrev pub Replies : Awaited → Outcome → Arrivals → Arrivals → Type 0
Replies w o h k = (r : Reply (List ℕ)) × (k.replies ≡ h.replies ++ r ∷ []) × Gives w r o

-- what was awaited came
abbrev pub Brings : Awaited → Outcome → List ℕ → Arrivals → Arrivals → Type 0
Brings w (Read v) octets h k = Replies w (Read v) h k
Brings w (Written v) octets h k = Replies w (Written v) h k
Brings w Concluded octets h k = Replies w Concluded h k
Brings w Released octets h k = (w ≡ awaits.Release) × IsSame h k × HasRelease octets k

-- or nothing did so far
abbrev pub BringsSome : Awaited → Option Outcome → List ℕ → Arrivals → Arrivals → Type 0
BringsSome w None octets h k = IsSame h k
BringsSome w (Some o) octets h k = Brings w o octets h k

-- ---- faults

-- The octets hold a PDU after which no legal stream goes on: it is none of a server, or a reply that doesn't fit, or a
-- segment that doesn't go on with the report that was begun.
abbrev pub Breaks : Awaited → Arrivals → List ℕ → ℕ → Type 0
Breaks w h pdu code = IsOther w pdu code ⊎ ((part : ReportPart) × IsReportPart pdu part × ¬ IsNext h.begun part × (code ≡ 7))

pub record HasBreak (w : Awaited) (octets : List ℕ) (code : ℕ) : Type 0 where
  pub before : List Event
  pub after : List Event
  pub pdu : List ℕ
  pub all : Arrivals
  pub came : CameTo octets (before ++ events.Pdu pdu ∷ after)
  pub adds : AddsAll no_arrivals (pdus_in before) all
  pub breaks : Breaks w all pdu code

-- a layer of the stack refuses the octets
abbrev pub HasRefusal : List ℕ → (layer code : ℕ) → Type 0
HasRefusal octets layer code = (before : List Event) × (n : ℕ) × IsRefused (calling 65000) octets before (let c : Cause = record { layer = layer; code = code } in c) n

-- the octets begin no legal stream of a server
abbrev pub IsIllegal : Awaited → List ℕ → (layer code : ℕ) → Type 0
IsIllegal w octets layer code = HasRefusal octets layer code ⊎ ((layer ≡ 5) × HasBreak w octets code)

-- the octets hold the end of the association
abbrev pub HasEnd : List ℕ → Type 0
HasEnd octets = (before after : List Event) × (CameTo octets (before ++ events.Aborted ∷ after) ⊎ ((o : List ℕ) × CameTo octets (before ++ events.Released o ∷ after)))

-- the octets hold a reply that refuses what is awaited
abbrev pub HasDeclined : Awaited → List ℕ → (class code : ℕ) → Type 0
HasDeclined w octets class code = (before after : List Event) × (pdu : List ℕ) × CameTo octets (before ++ events.Pdu pdu ∷ after) × IsDeclined w pdu class code

-- Why a call fails that has read these octets in all, and awaits this.
abbrev pub FailsBy : ClientFault → Ends → Ends → List ℕ → Awaited → Type 0
FailsBy faults.ReadFault a b read w = Rose a.reads b.reads
FailsBy faults.WriteFault a b read w = Rose a.writes b.writes
FailsBy faults.Ended a b read w = IsAtEnd b.left ⊎ HasEnd read
FailsBy (faults.Peer layer code) a b read w = IsIllegal w read layer code
FailsBy (faults.Service class code) a b read w = HasDeclined w read class code
FailsBy faults.Memory a b read w = Unit {0}

-- more octets were read, and one of them or of those before is the cause
pub record Failure (f : ClientFault) (a b : Ends) (read : List ℕ) (w : Awaited) : Type 0 where
  pub more : List ℕ
  pub consumes : Consumes a.left b.left more
  pub by : FailsBy f a b (read ++ more) w

abbrev pub FailsFor : Incoming → Ends → Ends → Awaited → ClientFault → Type 0
FailsFor old a b w f = (read : List ℕ) (given : List Report) (taken : List Event) (all : Arrivals) → Follows old read given taken all → Failure f a b read w

-- no more octets can be read
abbrev pub CannotRead : Stream → Ends → Ends → ClientFault → Type 0
CannotRead old a b f = (read : List ℕ) (taken : List Event) → HasCome old read taken → (w : Awaited) → Failure f a b read w

-- ---- the end

-- the conclude was answered and the association was then released
pub record HasEnded (a b : Ends) (read : List ℕ) (all : Arrivals) (octets : List ℕ) : Type 0 where
  pub more : List ℕ
  pub consumes : Consumes a.left b.left more
  pub writes : Appends a.taken b.taken octets
  pub next : Arrivals
  pub newest : next.replies ≡ all.replies ++ concluded ∷ []
  pub release : HasRelease (read ++ more) next

abbrev pub GoesToEnd : Incoming → Ends → Ends → List ℕ → Type 0
GoesToEnd old a b octets = (read : List ℕ) (given : List Report) (taken : List Event) (all : Arrivals) → Follows old read given taken all → HasEnded a b read all octets

abbrev pub FailsToEnd : Incoming → Ends → Ends → (conclude finish : List ℕ) → ClientFault → Type 0
FailsToEnd old a b conclude finish f = (FailsFor old a b awaits.Conclude f × GrowsByFront a.taken b.taken conclude)
    ⊎ (FailsFor old a b awaits.Release f × GrowsByFront a.taken b.taken (conclude ++ finish))

-- ---- requests

-- the next number follows, on the same line
abbrev pub Numbers : Association → Association → Type 0
Numbers old new = (new.line ≡ old.line) × ((count : ℕ) → old.invoke ≡ number_after count → new.invoke ≡ number_after (suc count))
