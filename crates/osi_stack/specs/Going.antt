-- What a piece of a stream does to what a connection keeps.
use Rattle.std.specs.Prelude.{◌≡◌, ℕ, ◌+◌, ◌-◌, ◌^◌, ◌<◌, min, true, false, List, [], ◌++◌, length, Option, Some, None, Ok, ◌⊎◌}
use Rattle.std.specs.Option.{option_to_list}
use Rattle.std.specs.List.{AllByRecursion}
use Rattle.tpkt_cotp.specs.declared.tsdus.Tpkt.{Tpkt}
use Rattle.tpkt_cotp.specs.declared.tsdus.Tsdu.{Tsdu}
use Rattle.tpkt_cotp.specs.Stream.{IsReady}
use Rattle.osi_stack.specs.declared.cause.Cause.{Cause}
use Rattle.osi_stack.specs.declared.cause.Stop.{Stop}
use Rattle.osi_stack.specs.declared.cause.Stop.TheVariants as stops
use Rattle.osi_stack.specs.declared.connection.Link.{Link}
use Rattle.osi_stack.specs.declared.events.Event.{Event}
use Rattle.osi_stack.specs.declared.fault.StackFault.{StackFault}
use Rattle.osi_stack.specs.declared.fault.StackFault.TheVariants.{Memory, Refused}
use Rattle.osi_stack.specs.declared.phase.Phase.{Phase}
use Rattle.osi_stack.specs.Causes.{IsStop}
use Rattle.osi_stack.specs.Lines.{HasLine, IsAgreed, IsSound}
use Rattle.osi_stack.specs.Stream.{Stand, gifts_at, has_ended, Takes, Stops}

abbrev pub stand : Link → Stand
stand l = record { transport = l.transport.state; phase = l.phase }

-- the transport refused nothing, and what was agreed and the count are in their ranges
pub record IsUsable (l : Link) : Type 0 where
  pub ready : IsReady l.transport
  pub agreed : IsAgreed l.phase
  pub count : l.octets < 2 ^ 64

abbrev pub fault_at : Stop → ℕ → StackFault
fault_at stops.Memory count = Memory
fault_at (stops.Refused cause) count = Refused cause.layer cause.code count

-- ---- one TPKT

-- n octets more, as far as 64 bits can say
abbrev pub counted : ℕ → ℕ → ℕ
counted before more = min (before + more) (2 ^ 64 - 1)

-- What a TPKT gave was taken, and what that comes to was added.
abbrev pub Adds : Phase → Option Tsdu → Phase → List Event → List Event → Type 0
Adds phase given next before now = (e : Option Event) × (gifts_at phase given ≡ Ok (next, e)) × (now ≡ before ++ option_to_list e) × IsSound (next, e)

abbrev pub Stays : Stop → Phase → Option Tsdu → List Event → List Event → Type 0
Stays s phase given before now = (now ≡ before) × IsStop s (gifts_at phase given)

abbrev pub AddsTpkt : Phase → ℕ → Option Tpkt → Phase → ℕ → List Event → List Event → Type 0
AddsTpkt phase octets None next count before now = (next ≡ phase) × (count ≡ octets) × (now ≡ before)
AddsTpkt phase octets (Some taken) next count before now = Adds phase taken.tsdu next before now × (count ≡ counted octets taken.octets)

abbrev pub StaysTpkt : Stop → Phase → Option Tpkt → List Event → List Event → Type 0
StaysTpkt s phase None before now = ⊥
StaysTpkt s phase (Some taken) before now = Stays s phase taken.tsdu before now

-- what is held, and octets after it
abbrev pub held_with : Link → List ℕ → List ℕ
held_with l piece = l.transport.held ++ piece

-- What was held and the piece are whole TPKTs, whose events were added, and then what is held now and the rest.
pub record Went (a b : Link) (piece rest : List ℕ) (before now : List Event) : Type 0 where
  pub given : List Event
  pub takes : Takes (stand a) (held_with a piece) given (stand b) (held_with b rest)
  pub grew : now ≡ before ++ given
  pub lines : AllByRecursion HasLine given
  pub counts : b.octets ≡ counted a.octets (length (held_with a piece) - length (held_with b rest))
  pub usable : IsUsable b

-- no legal TPKT stands there, or there is no memory
abbrev pub HaltsAt : Stop → Stand → List ℕ → Type 0
HaltsAt stops.Memory s input = Unit {0}
HaltsAt (stops.Refused cause) s input = Stops s input cause

abbrev pub IsHalted : Stop → Link → List ℕ → Link → List Event → List Event → Type 0
IsHalted s a piece b before now = (now ≡ before) × (b.octets ≡ a.octets) × HaltsAt s (stand a) (held_with a piece)

-- ---- a piece

-- all of it was taken, or the association has ended
abbrev pub WentAll : Link → Link → List ℕ → List Event → List Event → Type 0
WentAll a b piece before now = (rest : List ℕ) × Went a b piece rest before now × ((rest ≡ []) ⊎ (has_ended b.phase ≡ true))

-- why a connection stops after whole TPKTs that have n octets
abbrev pub Why : StackFault → Stand → List ℕ → ℕ → Type 0
Why Memory s bad count = Unit {0}
Why (Refused layer code octets) s bad count = (has_ended s.phase ≡ false) × Stops s bad (let c : Cause = record { layer = layer; code = code } in c) × (octets ≡ count)

-- Whole TPKTs were taken, and their events added, up to one that is refused, or as far as there was memory.
pub record Halts (f : StackFault) (a : Link) (piece : List ℕ) (before now : List Event) : Type 0 where
  pub stand_there : Stand
  pub bad : List ℕ
  pub given : List Event
  pub takes : Takes (stand a) (held_with a piece) given stand_there bad
  pub grew : now ≡ before ++ given
  pub lines : AllByRecursion HasLine given
  pub why : Why f stand_there bad (counted a.octets (length (held_with a piece) - length bad))
