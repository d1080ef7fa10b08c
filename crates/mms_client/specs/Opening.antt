-- How a client connects.
use Rattle.std.specs.Prelude.{◌≡◌, List, [], ◌∷◌, ◌++◌, ℕ, Option, Some, None}
use Rattle.std.specs.Io.KnownBytes.{Consumes, Appends}
use Rattle.osi_stack.specs.declared.events.Event.{Event}
use Rattle.osi_stack.specs.declared.events.Event.TheVariants.{Answer, Connected, Pdu, Released, Aborted}
use Rattle.osi_stack.specs.declared.events.Line.{Line}
use Rattle.mms_client.specs.declared.stream.Stream.{Stream}
use Rattle.mms_client.specs.Requests.{opening_octets}
use Rattle.mms_client.specs.Arrivals.{pdus_in}
use Rattle.mms_client.specs.declared.fault.ClientFault.{ClientFault}
use Rattle.mms_client.specs.declared.meaning.Awaited.TheVariants as awaits
use Rattle.mms_client.specs.Following.{Ends, HasCome, Failure}

-- the octets that these events are answered with
abbrev pub answers_in : List Event → List ℕ
answers_in [] = []
answers_in (Answer o ∷ es) = o ++ answers_in es
answers_in (Connected line o ∷ es) = answers_in es
answers_in (Pdu p ∷ es) = answers_in es
answers_in (Released o ∷ es) = answers_in es
answers_in (Aborted ∷ es) = answers_in es

-- none of the events makes the association
abbrev pub IsUnconnected : List Event → Type 0
IsUnconnected [] = Unit {0}
IsUnconnected (Answer o ∷ es) = IsUnconnected es
IsUnconnected (Connected line o ∷ es) = ⊥
IsUnconnected (Pdu p ∷ es) = IsUnconnected es
IsUnconnected (Released o ∷ es) = IsUnconnected es
IsUnconnected (Aborted ∷ es) = IsUnconnected es

-- the last of the events makes the association on this line, and no other does
abbrev pub IsConnected : List Event → Line → Type 0
IsConnected taken line = (before : List Event) × (o : List ℕ) × IsUnconnected before × (taken ≡ before ++ Connected line o ∷ [])

-- what was taken so far: with a line, the association is made
abbrev pub IsAt : List Event → Option Line → Type 0
IsAt taken None = IsUnconnected taken
IsAt taken (Some line) = IsConnected taken line

-- more octets were read, and what the events taken are answered with was written
pub record Steps (new : Stream) (a b : Ends) (read : List ℕ) (taken : List Event) (line : Option Line) : Type 0 where
  pub more : List ℕ
  pub consumes : Consumes a.left b.left more
  pub sent : List ℕ
  pub writes : Appends a.taken b.taken sent
  pub now : List Event
  pub come : HasCome new (read ++ more) now
  pub answers : answers_in now ≡ answers_in taken ++ sent
  pub connected : IsAt now line

abbrev pub StepsOn : Stream → Stream → Ends → Ends → Option Line → Type 0
StepsOn old new a b line = (read : List ℕ) (taken : List Event) → HasCome old read taken → IsUnconnected taken → Steps new a b read taken line

-- the cause is in the octets that the link gave, or in the link
abbrev pub FailsToOpen : Stream → Ends → Ends → ClientFault → Type 0
FailsToOpen old a b f = (read : List ℕ) (taken : List Event) → HasCome old read taken → IsUnconnected taken → Failure f a b read awaits.Reports

-- the CR and the CN were written, and the association is there
pub record Opens (s : Stream) (line : Line) (a b : Ends) : Type 0 where
  pub read : List ℕ
  pub consumes : Consumes a.left b.left read
  pub writes : Appends a.taken b.taken (opening_octets line)
  pub taken : List Event
  pub come : HasCome s read taken
  pub none : pdus_in taken ≡ []
