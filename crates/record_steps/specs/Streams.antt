-- What the pieces of a stream come to. A stream is what a peer sends from the `open A wire` line of its association on; what it comes
-- to is said of its octets alone, however they are cut.
use Rattle.std.specs.Prelude.{ℕ, suc, List, [], ◌∷◌, ◌++◌, length, drop, Option, None, Some}
use Rattle.bay_model.specs.declared.request.Request.{Request}
use Rattle.bay_model.specs.declared.step.Step.TheVariants as steps
use Rattle.sv_base.specs.declared.config.Config.{Config}
use Rattle.sv_base.specs.declared.numbers.AssocNo.{AssocNo}
use Rattle.osi_stack.specs.Lines.{IsLine}
use Rattle.osi_stack.specs.Running.{run, refusal}
use Rattle.osi_stack.specs.Stream.{called}
use Rattle.osi_stack.specs.declared.events.Event.{Event}
use Rattle.osi_stack.specs.declared.events.Event.TheVariants.{Answer, Connected, Pdu, Released, Aborted}
use Rattle.osi_stack.specs.declared.fault.StackFault.{StackFault}
use Rattle.osi_stack.specs.declared.fault.StackFault.TheVariants as faults
use Rattle.text_words.specs.Values.{hex_at}
use Rattle.stream_lines.specs.Lines.{frame_line, fault_line, released_line, aborted_line}
use Rattle.record_steps.specs.Asks.{asked_by}
use Rattle.record_steps.specs.Own.{own_opening}
use Rattle.record_steps.specs.declared.heard.Heard.{Heard}
use Rattle.record_steps.specs.declared.heard.Heard.TheVariants.{Tells, Makes}
use Rattle.record_steps.specs.declared.heard.Wired.{Wired}
use Rattle.record_steps.specs.declared.heard.Wired.TheVariants.{Dialling, On, Off}

-- the octets of a piece, which has at least one
abbrev pub some_octets : Option (List ℕ) → Option (List ℕ)
some_octets None = None
some_octets (Some []) = None
some_octets (Some (octet ∷ more)) = Some (octet ∷ more)

abbrev pub piece_at : List ℕ → Option (List ℕ)
piece_at hex = some_octets (hex_at hex)

-- the events of a stream beyond those that its octets before the piece gave
abbrev pub events_behind : (octets piece : List ℕ) → List Event
events_behind octets piece = drop (length (run called octets).events) (run called (octets ++ piece)).events

-- how the stream is refused with the piece, if it is: it counts octets of the stream
abbrev pub refusal_behind : (octets piece : List ℕ) → Option StackFault
refusal_behind octets piece = refusal (octets ++ piece) (run called (octets ++ piece))

-- ---- what the association of a stream is

-- it dials until it is connected, and is gone after a release, an abort and a refusal
abbrev pub wired_by : Event → Wired → Wired
wired_by (Answer octets) w = w
wired_by (Connected line octets) w = On line
wired_by (Pdu octets) w = w
wired_by (Released octets) w = Off
wired_by Aborted w = Off

abbrev pub wired_through : List Event → Option StackFault → Wired → Wired
wired_through [] None w = w
wired_through [] (Some fault) w = Off
wired_through (e ∷ es) fault w = wired_through es fault (wired_by e w)

-- a line is one that was agreed
abbrev pub IsWired : Wired → Type 0
IsWired Dialling = Unit {0}
IsWired (On line) = IsLine line
IsWired Off = Unit {0}

-- ---- what its events come to: lines of the stack's own, and steps of the association

-- one that is connected is lost; one that dials was never there
abbrev pub lost_by : AssocNo → Wired → List Heard
lost_by a Dialling = []
lost_by a (On line) = Makes (record { 0 = a.0 }) (steps.Lost a) ∷ []
lost_by a Off = []

-- a PDU that asks nothing makes no step
abbrev pub asked_heard : AssocNo → Option Request → List Heard
asked_heard a None = []
asked_heard a (Some r) = Makes (record { 0 = a.0 }) (steps.Ask a r) ∷ []

-- an answer is a frame; the association opens, with the size that was agreed, when it is connected
abbrev pub heard_by : Config → AssocNo → Wired → Event → List Heard
heard_by c a w (Answer octets) = Tells (frame_line a.0 octets) ∷ []
heard_by c a w (Connected line octets) = Makes (record { 0 = a.0 }) (own_opening a line.size) ∷ Tells (frame_line a.0 octets) ∷ []
heard_by c a w (Pdu octets) = asked_heard a (asked_by c octets)
heard_by c a w (Released octets) = Tells (frame_line a.0 octets ++ released_line a.0) ∷ lost_by a w
heard_by c a w Aborted = Tells (aborted_line a.0) ∷ lost_by a w

-- no stream is refused when out of memory
abbrev pub heard_fault : AssocNo → Wired → StackFault → List Heard
heard_fault a w faults.Memory = []
heard_fault a w (faults.Refused layer code octets) = Tells (fault_line a.0 layer code octets) ∷ lost_by a w

abbrev pub heard_through : Config → AssocNo → List Event → Option StackFault → Wired → List Heard
heard_through c a [] None w = []
heard_through c a [] (Some fault) w = heard_fault a w fault
heard_through c a (e ∷ es) fault w = heard_by c a w e ++ heard_through c a es fault (wired_by e w)

-- how many steps there are
abbrev pub made : List Heard → ℕ
made [] = 0
made (Tells text ∷ hs) = made hs
made (Makes actor step ∷ hs) = suc (made hs)
