-- The reports that wait to be given.
use Rattle.std.specs.Prelude.{◌≡◌, ◌⊎◌, [], ◌∷◌, ◌++◌, Option, Some, None}
use Rattle.report_cut.specs.declared.part.ReportPart.{ReportPart}
use Rattle.report_joining.specs.Joining.{IsNext, joined}
use Rattle.osi_stack.specs.declared.events.Event.{Event}
use Rattle.report_joining.specs.declared.joining.Begun.{Begun}
use Rattle.report_joining.specs.declared.joining.Joined.{Joined}
use Rattle.report_joining.specs.declared.joining.Joined.TheVariants.{Whole, More}
use Rattle.mms_client.specs.declared.fault.ClientFault.{ClientFault}
use Rattle.mms_client.specs.declared.fault.ClientFault.TheVariants.{Peer, Ended, ReadFault, WriteFault, Memory, Service}
use Rattle.mms_client.specs.declared.meaning.Awaited.{Awaited}
use Rattle.mms_client.specs.declared.meaning.Meaning.TheVariants.{Part, Nothing, Came}
use Rattle.mms_client.specs.declared.meaning.Outcome.{Outcome}
use Rattle.mms_client.specs.Meaning.{Means, RefusesEvent}
use Rattle.mms_client.specs.declared.reports.Reports.{Reports}

-- what joining came to was put after those that wait, or kept as begun
abbrev pub KeepsAs : Joined → Reports → Reports → Type 0
KeepsAs (Whole r) old new = (new.whole.items ≡ old.whole.items ++ r ∷ []) × (new.begun ≡ None)
KeepsAs (More b) old new = (new.whole.items ≡ old.whole.items) × (new.begun ≡ Some b)

-- why a PDU of a report isn't taken: it isn't the next one
abbrev pub RefusesPart : Option Begun → ReportPart → ClientFault → Type 0
RefusesPart begun part (Peer layer code) = (layer ≡ 5) × (code ≡ 7) × ¬ IsNext begun part
RefusesPart begun part Memory = Unit {0}
RefusesPart begun part Ended = ⊥
RefusesPart begun part ReadFault = ⊥
RefusesPart begun part WriteFault = ⊥
RefusesPart begun part (Service class code) = ⊥

-- ---- an event

-- one more PDU of a report was kept; or another event changed nothing, which is what is awaited where something comes of it
abbrev pub Heeds : Awaited → Event → Reports → Reports → Option Outcome → Type 0
Heeds w e old new None = (Means w e Nothing × (new ≡ old))
    ⊎ ((part : ReportPart) × Means w e (Part part) × IsNext old.begun part × KeepsAs (joined old.begun part) old new)
Heeds w e old new (Some o) = Means w e (Came o) × (new ≡ old)

-- the event is refused, or it is a PDU of a report that isn't the next one
abbrev pub RefusesTaking : Awaited → Event → Reports → ClientFault → Type 0
RefusesTaking w e old f = RefusesEvent w e f ⊎ ((part : ReportPart) × Means w e (Part part) × RefusesPart old.begun part f)
