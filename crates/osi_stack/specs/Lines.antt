-- What may be agreed on a connection.
use Rattle.std.specs.Prelude.{ℕ, ◌≤◌, Option, unwrap_or}
use Rattle.std.specs.Option.{option_to_list}
use Rattle.std.specs.List.{AllByRecursion}
use Rattle.tpkt_cotp.specs.declared.tsdus.Cr.{Cr}
use Rattle.tpkt_cotp.specs.Written.{IsExponent}
use Rattle.osi_stack.specs.declared.events.Event.{Event}
use Rattle.osi_stack.specs.declared.events.Event.TheVariants.{Answer, Connected, Pdu, Released, Aborted}
use Rattle.osi_stack.specs.declared.events.Line.{Line}
use Rattle.osi_stack.specs.declared.phase.Phase.{Phase}
use Rattle.osi_stack.specs.declared.phase.Phase.TheVariants.{Idle, Called, Open, Calling, Asking, Joined, Ended}

-- An exponent that a CR can say, or 16 where it says none (RFC 1006, "TPDU size"), and a size of PDUs that is not small.
pub record IsLine (line : Line) : Type 0 where
  pub exponent : IsExponent line.exponent
  pub least : 1024 ≤ line.size
  pub most : line.size ≤ 65000

-- the line that an event says
abbrev pub HasLine : Event → Type 0
HasLine (Connected line octets) = IsLine line
HasLine (Answer octets) = Unit {0}
HasLine (Pdu octets) = Unit {0}
HasLine (Released octets) = Unit {0}
HasLine Aborted = Unit {0}

-- a size that a client may propose
abbrev pub IsProposal : ℕ → Type 0
IsProposal size = (1024 ≤ size) × (size ≤ 65000)

abbrev pub IsAgreed : Phase → Type 0
IsAgreed Idle = Unit {0}
IsAgreed (Called exponent) = IsExponent exponent
IsAgreed (Open line acse) = IsLine line
IsAgreed (Calling size) = IsProposal size
IsAgreed (Asking exponent size) = IsExponent exponent × IsProposal size
IsAgreed (Joined line) = IsLine line
IsAgreed Ended = Unit {0}

-- a phase, and what is told with it
abbrev pub IsSound : Phase × Option Event → Type 0
IsSound x = IsAgreed x.0 × AllByRecursion HasLine (option_to_list x.1)

-- The exponent of a CR's size, and that of a CC's: a CR that says none leaves 65531 octets (RFC 1006), a CC that says
-- none leaves what the CR proposed.
abbrev pub exponent_of : Cr → ℕ
exponent_of cr = unwrap_or cr.size 16

abbrev pub exponent_left : Cr → ℕ
exponent_left cr = unwrap_or cr.size 13
