-- The two sides of a connection.
use Rattle.std.specs.Prelude.{ℕ, List}
use Rattle.osi_stack.specs.declared.caller.Caller.{Caller}
use Rattle.osi_stack.specs.declared.events.Event.{Event}
use Rattle.osi_stack.specs.declared.fault.StackFault.{StackFault}
use Rattle.osi_stack.specs.declared.upper.Upper.{Upper}
use Rattle.osi_stack.specs.Stream.{called, calling}
use Rattle.osi_stack.specs.Standing.{IsAt, HasStopped, MovesOn, StopsAt}

-- ---- the side that was called

abbrev pub StandsFor : Upper → List ℕ → List Event → Type 0
StandsFor u octets events = IsAt u.connection called octets events

abbrev pub HasRefused : Upper → StackFault → Type 0
HasRefused u f = HasStopped u.connection f

abbrev pub GoesOn : Upper → List ℕ → List Event → List Event → List Event → Type 0
GoesOn u octets so_far before now = MovesOn u.connection called octets so_far before now

abbrev pub Refuses : StackFault → List ℕ → List Event → List Event → List Event → Type 0
Refuses f octets so_far before now = StopsAt f called octets so_far before now

-- ---- the side that calls, which proposes PDUs of this size

abbrev pub CallsFor : Caller → ℕ → List ℕ → List Event → Type 0
CallsFor c size octets events = IsAt c.connection (calling size) octets events

abbrev pub HasGivenUp : Caller → StackFault → Type 0
HasGivenUp c f = HasStopped c.connection f

abbrev pub CallsOn : Caller → ℕ → List ℕ → List Event → List Event → List Event → Type 0
CallsOn c size octets so_far before now = MovesOn c.connection (calling size) octets so_far before now

abbrev pub GivesUp : StackFault → ℕ → List ℕ → List Event → List Event → List Event → Type 0
GivesUp f size octets so_far before now = StopsAt f (calling size) octets so_far before now
