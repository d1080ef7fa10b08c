-- What an object stands for: the octets that it was fed, and the events that it gave for them.
use Rattle.std.specs.Prelude.{◌≡◌, ℕ, false, List, ◌++◌, Some, None, ◌⊎◌}
use Rattle.osi_stack.specs.declared.cause.Cause.{Cause}
use Rattle.osi_stack.specs.declared.connection.Connection.{Connection}
use Rattle.osi_stack.specs.declared.connection.Link.{Link}
use Rattle.osi_stack.specs.declared.events.Event.{Event}
use Rattle.osi_stack.specs.declared.fault.StackFault.{StackFault}
use Rattle.osi_stack.specs.declared.fault.StackFault.TheVariants.{Memory, Refused}
use Rattle.osi_stack.specs.Stream.{Stand, has_ended, Takes, count_of, StandsAt, IsRefused}
use Rattle.osi_stack.specs.Going.{stand}

-- Until the end what is held is the beginning of a TPKT, and the octets before it are counted.
pub record Stands (from : Stand) (l : Link) (octets : List ℕ) (events : List Event) : Type 0 where
  pub rest : List ℕ
  pub at : StandsAt from (stand l) rest octets events
  pub held : has_ended l.phase ≡ false → rest ≡ l.transport.held
  pub count : has_ended l.phase ≡ false → l.octets ≡ count_of octets rest

-- from one stand on, on either side
abbrev pub IsAt : Connection → Stand → List ℕ → List Event → Type 0
IsAt c from octets events = (c.1 ≡ None) × Stands from c.0 octets events

-- it answered this refusal
abbrev pub HasStopped : Connection → StackFault → Type 0
HasStopped c f = c.1 ≡ Some f

-- Whole TPKTs at the front of the octets came to these events.
abbrev pub Gave : Stand → List ℕ → List Event → Type 0
Gave from octets events = (t : Stand) × (rest : List ℕ) × Takes from octets events t rest

-- What feeding a piece does: the connection stands for the octets with the piece, and their events were added.
abbrev pub MovesOn : Connection → Stand → List ℕ → List Event → List Event → List Event → Type 0
MovesOn c from octets so_far before now = (more : List Event) × (now ≡ before ++ more) × IsAt c from octets (so_far ++ more)

abbrev pub IsRefusedAt : StackFault → Stand → List ℕ → List Event → Type 0
IsRefusedAt Memory from octets events = Unit {0}
IsRefusedAt (Refused layer code count) from octets events = IsRefused from octets events (let c : Cause = record { layer = layer; code = code } in c) count

-- Or it refuses the octets with the piece: the events of the whole TPKTs before the bad one were added. Without memory
-- those of some of them were.
abbrev pub StopsAt : StackFault → Stand → List ℕ → List Event → List Event → List Event → Type 0
StopsAt f from octets so_far before now = (more : List Event) × (now ≡ before ++ more) × Gave from octets (so_far ++ more) × IsRefusedAt f from octets (so_far ++ more)

-- From one stand on the octets stand for events, or they are refused.
abbrev pub IsAnswered : Stand → List ℕ → Type 0
IsAnswered from octets = ((t : Stand) × (rest : List ℕ) × (events : List Event) × StandsAt from t rest octets events)
    ⊎ ((events : List Event) × (c : Cause) × (count : ℕ) × IsRefused from octets events c count)

-- A refusal with what was added is this one: the same events in all, the same cause and the same count. Of out of memory
-- nothing is said.
abbrev pub IsSameRefusal : StackFault → List Event → Cause → ℕ → List Event → List Event → List Event → Type 0
IsSameRefusal Memory events c n so_far before now = Unit {0}
IsSameRefusal (Refused layer code count) events c n so_far before now = (more : List Event) × (now ≡ before ++ more) × (so_far ++ more ≡ events) × (layer ≡ c.layer) × (code ≡ c.code) × (count ≡ n)
