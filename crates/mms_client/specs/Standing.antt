-- What a client stands for: the octets that it read and wrote, the requests that it made, and the reports that it gave.
use Rattle.std.specs.Prelude.{◌≡◌, ◌⊎◌, ℕ, ◌≤◌, List, [], ◌∷◌, ◌++◌, length, Some, None, Result, Ok, Err}
use Rattle.std.specs.Io.KnownBytes.{Consumes, Appends}
use Rattle.sv_io.specs.Causes.{GrowsByFront}
use Rattle.bay_model.specs.declared.report.Report.{Report}
use Rattle.mms_pdu.specs.Reply.{Reply, concluded}
use Rattle.osi_stack.specs.declared.events.Event.{Event}
use Rattle.mms_client.specs.declared.client.Client.{Client}
use Rattle.mms_client.specs.declared.fault.ClientFault.{ClientFault}
use Rattle.mms_client.specs.declared.meaning.Awaited.{Awaited}
use Rattle.mms_client.specs.declared.meaning.Awaited.TheVariants as awaits
use Rattle.mms_client.specs.Requests.{Request, number_after, request_octets, octets_written, opening_octets, conclude_octets, finish_octets}
use Rattle.mms_client.specs.Arrivals.{Arrivals, no_arrivals}
use Rattle.mms_client.specs.Meaning.{AnswersWrite}
use Rattle.mms_client.specs.Following.{Ends, Follows, Failure, HasRelease}

-- The client read and wrote these octets, made these requests, each of which has its reply, and gave these reports. At most
-- 1024 more wait.
pub record Stands (c : Client) (read wrote : List ℕ) (requests : List Request) (given : List Report) (all : Arrivals) : Type 0 where
  pub fault : c.fault ≡ None
  pub taken : List Event
  pub follows : Follows c.association.incoming read given taken all
  pub replied : length all.replies ≡ length requests
  pub number : c.association.invoke ≡ number_after (length requests)
  pub octets : wrote ≡ octets_written c.association.line requests
  pub bounded : length c.association.incoming.reports.whole.items ≤ 1024

-- ---- calls

-- these octets were read and these written
abbrev pub Passes : Ends → Ends → (read wrote : List ℕ) → Type 0
Passes a b read wrote = Consumes a.left b.left read × Appends a.taken b.taken wrote

-- One more request was written, and has its reply, which says this.
pub record HasReply (old new : Client) (a b : Ends) (read wrote : List ℕ) (requests : List Request) (given : List Report) (all : Arrivals) (request : Request) (Says : Reply (List ℕ) → Type 0) : Type 0 where
  pub more : List ℕ
  pub passes : Passes a b more (request_octets old.association.line (length requests) request)
  pub next : Arrivals
  pub stands : Stands new (read ++ more) (wrote ++ request_octets old.association.line (length requests) request) (requests ++ request ∷ []) given next
  pub reply : Reply (List ℕ)
  pub newest : next.replies ≡ all.replies ++ reply ∷ []
  pub says : Says reply

-- whatever the client stood for, the request is the next one, under the next number
abbrev pub Asks : Client → Client → Ends → Ends → Request → (ℕ → Reply (List ℕ) → Type 0) → Type 0
Asks old new a b request Says = (read wrote : List ℕ) (requests : List Request) (given : List Report) (all : Arrivals) → Stands old read wrote requests given all
    → HasReply old new a b read wrote requests given all request (Says (number_after (length requests)))

-- one more report was given, and nothing written
pub record HasReport (new : Client) (a b : Ends) (read wrote : List ℕ) (requests : List Request) (given : List Report) (report : Report) : Type 0 where
  pub more : List ℕ
  pub passes : Passes a b more []
  pub next : Arrivals
  pub stands : Stands new (read ++ more) wrote requests (given ++ report ∷ []) next

abbrev pub GivesReport : Client → Client → Ends → Ends → Report → Type 0
GivesReport old new a b report = (read wrote : List ℕ) (requests : List Request) (given : List Report) (all : Arrivals) → Stands old read wrote requests given all
    → HasReport new a b read wrote requests given report

-- the association was made: the CR and the CN were written
abbrev pub Connects : Client → Ends → Ends → Type 0
Connects c a b = (read : List ℕ) × Passes a b read (opening_octets c.association.line) × Stands c read (opening_octets c.association.line) [] [] no_arrivals

-- EntryID was written, and where that was accepted RptEna; the result is what the last of them was answered
abbrev pub Resumes : Client → Client → Ends → Ends → Request → Request → Result (Unit {0}) ℕ → Type 0
Resumes old new a b first second (Ok u) = (mid : Client) × (m : Ends) × Asks old mid a m first (λ n y. AnswersWrite n y (Ok tt)) × Asks mid new m b second (λ n y. AnswersWrite n y (Ok tt))
Resumes old new a b first second (Err code) = Asks old new a b first (λ n y. AnswersWrite n y (Err code))
    ⊎ ((mid : Client) × (m : Ends) × Asks old mid a m first (λ n y. AnswersWrite n y (Ok tt)) × Asks mid new m b second (λ n y. AnswersWrite n y (Err code)))

-- the association was concluded, and then released
pub record Ending (old : Client) (a b : Ends) (read : List ℕ) (all : Arrivals) : Type 0 where
  pub more : List ℕ
  pub passes : Passes a b more (conclude_octets old.association.line ++ finish_octets old.association.line)
  pub next : Arrivals
  pub newest : next.replies ≡ all.replies ++ concluded ∷ []
  pub release : HasRelease (read ++ more) next

abbrev pub Concludes : Client → Ends → Ends → Type 0
Concludes old a b = (read wrote : List ℕ) (requests : List Request) (given : List Report) (all : Arrivals) → Stands old read wrote requests given all → Ending old a b read all

-- ---- faults

-- a call answered this fault
abbrev pub HasFailed : Client → ClientFault → Type 0
HasFailed c f = c.fault ≡ Some f

-- Why a call fails that writes these octets and awaits this, by the count of requests and by the next number: no more than a
-- front of them was written.
abbrev pub Fails : Client → ClientFault → Ends → Ends → (ℕ → List ℕ) → (ℕ → Awaited) → Type 0
Fails old f a b octets w = (read wrote : List ℕ) (requests : List Request) (given : List Report) (all : Arrivals) → Stands old read wrote requests given all
    → Failure f a b read (w (number_after (length requests))) × GrowsByFront a.taken b.taken (octets (length requests))

abbrev pub FailsToAsk : Client → ClientFault → Ends → Ends → Request → (ℕ → Awaited) → Type 0
FailsToAsk old f a b request w = Fails old f a b (λ n. request_octets old.association.line n request) w

abbrev pub FailsToReport : Client → ClientFault → Ends → Ends → Type 0
FailsToReport old f a b = Fails old f a b (λ n. []) (λ n. awaits.Reports)

abbrev pub FailsToResume : Client → ClientFault → Ends → Ends → Request → Request → Type 0
FailsToResume old f a b first second = FailsToAsk old f a b first (λ n. awaits.Write n)
    ⊎ ((mid : Client) × (m : Ends) × Asks old mid a m first (λ n y. AnswersWrite n y (Ok tt)) × FailsToAsk mid f m b second (λ n. awaits.Write n))

-- before the reply to the conclude, or after it
abbrev pub FailsToConclude : Client → ClientFault → Ends → Ends → Type 0
FailsToConclude old f a b = Fails old f a b (λ n. conclude_octets old.association.line) (λ n. awaits.Conclude)
    ⊎ Fails old f a b (λ n. conclude_octets old.association.line ++ finish_octets old.association.line) (λ n. awaits.Release)

abbrev pub FailsToConnect : ClientFault → Ends → Ends → Type 0
FailsToConnect f a b = Failure f a b [] awaits.Reports
