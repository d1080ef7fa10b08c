-- What the PDUs of a server come to: replies in order, and reports, joined of their segments.
use Rattle.std.specs.Prelude.{◌≡◌, ◌⊎◌, ℕ, List, [], ◌∷◌, ◌++◌, Bool, true, false, Option, Some, None}
use Rattle.mms_pdu.specs.Reply.{Reply, information, IsReply}
use Rattle.osi_stack.specs.declared.events.Event.{Event}
use Rattle.osi_stack.specs.declared.events.Event.TheVariants.{Answer, Connected, Pdu, Released, Aborted}
use Rattle.bay_model.specs.declared.report.Report.{Report}
use Rattle.report_cut.specs.declared.part.ReportPart.{ReportPart}
use Rattle.report_cut.specs.Part.{IsReportPart}
use Rattle.report_joining.specs.declared.joining.Begun.{Begun}
use Rattle.report_joining.specs.declared.joining.Joined.{Joined}
use Rattle.report_joining.specs.declared.joining.Joined.TheVariants.{Whole, More}
use Rattle.report_joining.specs.Joining.{IsNext, joined}

-- the PDUs among events
abbrev pub pdus_in : List Event → List (List ℕ)
pdus_in [] = []
pdus_in (Pdu p ∷ es) = p ∷ pdus_in es
pdus_in (Answer o ∷ es) = pdus_in es
pdus_in (Connected line o ∷ es) = pdus_in es
pdus_in (Released o ∷ es) = pdus_in es
pdus_in (Aborted ∷ es) = pdus_in es

-- what PDUs came to
pub record Arrivals : Type 0 where
  pub replies : List (Reply (List ℕ))
  pub reports : List Report
  pub begun : Option Begun  -- a report of which more segments follow

abbrev pub no_arrivals : Arrivals
no_arrivals = record { replies = []; reports = []; begun = None }

-- it replies to a request
abbrev pub is_to_request : Reply (List ℕ) → Bool
is_to_request (information pdu) = false
is_to_request _ = true

abbrev pub with_reply : Arrivals → Reply (List ℕ) → Arrivals
with_reply h r = record h { replies = h.replies ++ r ∷ [] }

-- what joining came to
abbrev pub with_joined : Arrivals → Joined → Arrivals
with_joined h (Whole r) = record { replies = h.replies; reports = h.reports ++ r ∷ []; begun = None }
with_joined h (More b) = record { replies = h.replies; reports = h.reports; begun = Some b }

-- one more segment
abbrev pub with_part : Arrivals → ReportPart → Arrivals
with_part h part = with_joined h (joined h.begun part)

-- a PDU of a report, which is the next of that; another information report is disregarded
abbrev pub AddsReport : Arrivals → List ℕ → Arrivals → Type 0
AddsReport h pdu k = ((part : ReportPart) × IsReportPart pdu part × IsNext h.begun part × (k ≡ with_part h part))
    ⊎ (((part : ReportPart) → ¬ IsReportPart pdu part) × (k ≡ h))

-- One more PDU: a reply to a request, or an information report.
abbrev pub Adds : Arrivals → List ℕ → Arrivals → Type 0
Adds h pdu k = ((r : Reply (List ℕ)) × IsReply pdu r × (is_to_request r ≡ true) × (k ≡ with_reply h r))
    ⊎ (IsReply pdu (information pdu) × AddsReport h pdu k)

abbrev pub AddsAll : Arrivals → List (List ℕ) → Arrivals → Type 0
AddsAll h [] k = k ≡ h
AddsAll h (pdu ∷ pdus) k = (mid : Arrivals) × Adds h pdu mid × AddsAll mid pdus k
