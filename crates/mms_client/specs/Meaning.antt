-- What an event of a server's stream is to a client that awaits something.
use Rattle.std.specs.Prelude.{◌≡◌, ◌⊎◌, ℕ, List, true, Some, None, Result}
use Rattle.sv_base.specs.Tree.{Seen}
use Rattle.mms_elements.specs.declared.fault.PduFault.{PduFault}
use Rattle.mms_elements.specs.declared.tags.TheConstants as tags
use Rattle.mms_pdu.specs.Reply.{Reply, answer, error, reject, concluded, information, IsReply, IsReplyRefused}
use Rattle.mms_pdu.specs.Results.{SaysRead, SaysWritten, seen_result}
use Rattle.osi_stack.specs.declared.events.Event.{Event}
use Rattle.osi_stack.specs.declared.events.Event.TheVariants as events
use Rattle.report_cut.specs.declared.part.ReportPart.{ReportPart}
use Rattle.report_cut.specs.Part.{IsReportPart}
use Rattle.mms_client.specs.declared.fault.ClientFault.{ClientFault}
use Rattle.mms_client.specs.declared.fault.ClientFault.TheVariants as faults
use Rattle.mms_client.specs.declared.meaning.Awaited.{Awaited}
use Rattle.mms_client.specs.declared.meaning.Awaited.TheVariants as awaits
use Rattle.mms_client.specs.declared.meaning.Meaning.{Meaning}
use Rattle.mms_client.specs.declared.meaning.Meaning.TheVariants.{Part, Nothing, Came}
use Rattle.mms_client.specs.declared.meaning.Outcome.{Outcome}
use Rattle.mms_client.specs.declared.meaning.Outcome.TheVariants.{Read, Written, Concluded, Released}
use Rattle.mms_client.specs.Faults.{code_of}
use Rattle.mms_client.specs.Arrivals.{is_to_request}

-- ---- replies

-- the answer to the read with this number, which says this of its one variable
abbrev pub AnswersRead : ℕ → Reply (List ℕ) → Result Seen ℕ → Type 0
AnswersRead invoke (answer n tag body) v = (n ≡ invoke) × (tag ≡ tags.READ) × SaysRead body v
AnswersRead invoke (error n class code) v = ⊥
AnswersRead invoke (reject n code) v = ⊥
AnswersRead invoke concluded v = ⊥
AnswersRead invoke (information pdu) v = ⊥

-- the answer to the write with this number
abbrev pub AnswersWrite : ℕ → Reply (List ℕ) → Result (Unit {0}) ℕ → Type 0
AnswersWrite invoke (answer n tag body) v = (n ≡ invoke) × (tag ≡ tags.WRITE) × SaysWritten body v
AnswersWrite invoke (error n class code) v = ⊥
AnswersWrite invoke (reject n code) v = ⊥
AnswersWrite invoke concluded v = ⊥
AnswersWrite invoke (information pdu) v = ⊥

-- a reject without a number is of class 255
abbrev pub IsReject : Reply (List ℕ) → (class code : ℕ) → Type 0
IsReject (reject None d) class code = (class ≡ 255) × (code ≡ d)
IsReject (reject (Some n) d) class code = ⊥
IsReject (answer n tag body) class code = ⊥
IsReject (error n c d) class code = ⊥
IsReject concluded class code = ⊥
IsReject (information pdu) class code = ⊥

-- an error or a reject of the request with this number, or a reject without one
abbrev pub RefusesRequest : ℕ → Reply (List ℕ) → (class code : ℕ) → Type 0
RefusesRequest invoke (error n c d) class code = (n ≡ invoke) × (class ≡ c) × (code ≡ d)
RefusesRequest invoke (reject (Some n) d) class code = (n ≡ invoke) × (class ≡ 255) × (code ≡ d)
RefusesRequest invoke (reject None d) class code = (class ≡ 255) × (code ≡ d)
RefusesRequest invoke (answer n tag body) class code = ⊥
RefusesRequest invoke concluded class code = ⊥
RefusesRequest invoke (information pdu) class code = ⊥

-- the reply refuses what is awaited
abbrev pub Declines : Awaited → Reply (List ℕ) → (class code : ℕ) → Type 0
Declines (awaits.Read n) r class code = RefusesRequest n r class code
Declines (awaits.Write n) r class code = RefusesRequest n r class code
Declines awaits.Conclude r class code = IsReject r class code
Declines awaits.Reports r class code = ⊥
Declines awaits.Release r class code = ⊥

-- the reply gives what is awaited
abbrev pub IsAwaited : Awaited → Reply (List ℕ) → Type 0
IsAwaited (awaits.Read n) r = (v : Result Seen ℕ) × AnswersRead n r v
IsAwaited (awaits.Write n) r = (v : Result (Unit {0}) ℕ) × AnswersWrite n r v
IsAwaited awaits.Conclude r = r ≡ concluded
IsAwaited awaits.Reports r = ⊥
IsAwaited awaits.Release r = ⊥

-- a reply that may come
abbrev pub Fits : Awaited → Reply (List ℕ) → Type 0
Fits w r = IsAwaited w r ⊎ ((class code : ℕ) × Declines w r class code)

-- why a reply to a request is no good answer: it refuses what is awaited, or it doesn't fit
abbrev pub IsRefusal : Awaited → Reply (List ℕ) → ClientFault → Type 0
IsRefusal w r (faults.Peer layer code) = (layer ≡ 5) × (code ≡ 6) × ¬ Fits w r
IsRefusal w r (faults.Service class code) = Declines w r class code
IsRefusal w r faults.Memory = Unit {0}
IsRefusal w r faults.Ended = ⊥
IsRefusal w r faults.ReadFault = ⊥
IsRefusal w r faults.WriteFault = ⊥

-- ---- PDUs

-- the awaited reply, and what comes of it
abbrev pub Gives : Awaited → Reply (List ℕ) → Outcome → Type 0
Gives (awaits.Read n) r (Read v) = AnswersRead n r (seen_result v)
Gives (awaits.Read n) r _ = ⊥
Gives (awaits.Write n) r (Written v) = AnswersWrite n r v
Gives (awaits.Write n) r _ = ⊥
Gives awaits.Conclude r Concluded = r ≡ concluded
Gives awaits.Conclude r _ = ⊥
Gives awaits.Reports r o = ⊥
Gives awaits.Release r o = ⊥

-- a PDU of a report, another information report, or the awaited reply
abbrev pub MeansPdu : Awaited → List ℕ → Meaning → Type 0
MeansPdu w pdu (Part part) = IsReply pdu (information pdu) × IsReportPart pdu part
MeansPdu w pdu Nothing = IsReply pdu (information pdu) × ((part : ReportPart) → ¬ IsReportPart pdu part)
MeansPdu w pdu (Came o) = (r : Reply (List ℕ)) × IsReply pdu r × (is_to_request r ≡ true) × Gives w r o

-- a PDU that no server sends there: it is none of a server, or a reply that doesn't fit
abbrev pub IsOther : Awaited → List ℕ → ℕ → Type 0
IsOther w pdu code = ((f : PduFault) × IsReplyRefused pdu f × (code ≡ code_of f))
    ⊎ ((r : Reply (List ℕ)) × IsReply pdu r × (is_to_request r ≡ true) × ¬ Fits w r × (code ≡ 6))

abbrev pub IsDeclined : Awaited → List ℕ → (class code : ℕ) → Type 0
IsDeclined w pdu class code = (r : Reply (List ℕ)) × IsReply pdu r × Declines w r class code

abbrev pub RefusesPdu : Awaited → List ℕ → ClientFault → Type 0
RefusesPdu w pdu (faults.Peer layer code) = (layer ≡ 5) × IsOther w pdu code
RefusesPdu w pdu (faults.Service class code) = IsDeclined w pdu class code
RefusesPdu w pdu faults.Memory = Unit {0}
RefusesPdu w pdu faults.Ended = ⊥
RefusesPdu w pdu faults.ReadFault = ⊥
RefusesPdu w pdu faults.WriteFault = ⊥

-- ---- events

-- a release is awaited, and an abort never is
abbrev pub Means : Awaited → Event → Meaning → Type 0
Means w (events.Pdu pdu) m = MeansPdu w pdu m
Means w (events.Answer o) m = m ≡ Nothing
Means w (events.Connected line o) m = m ≡ Nothing
Means w (events.Released o) m = (w ≡ awaits.Release) × (m ≡ Came Released)
Means w events.Aborted m = ⊥

abbrev pub RefusesEvent : Awaited → Event → ClientFault → Type 0
RefusesEvent w (events.Pdu pdu) f = RefusesPdu w pdu f
RefusesEvent w (events.Answer o) f = ⊥
RefusesEvent w (events.Connected line o) f = ⊥
RefusesEvent w (events.Released o) f = f ≡ faults.Ended
RefusesEvent w events.Aborted f = f ≡ faults.Ended
