-- A stream, run: the events of its whole TPKTs, one after the other, and what stops it. It computes what Stream.antt says.
use Rattle.std.specs.Prelude.{◌≡◌, ℕ, zero, suc, false, List, [], ◌++◌, length, Option, Some, None, Result, Ok, Err, if◌then◌else◌}
use Rattle.std.specs.Option.{option_to_list, option_map}
use Rattle.ber_grammar.specs.Octets.{IsBytes}
use Rattle.tpkt_cotp.specs.declared.fault.TpFault.{TpFault}
use Rattle.tpkt_cotp.specs.Packet.{packet_at}
use Rattle.osi_stack.specs.declared.cause.Cause.{Cause}
use Rattle.osi_stack.specs.declared.connection.Connection.{Connection}
use Rattle.osi_stack.specs.declared.events.Event.{Event}
use Rattle.osi_stack.specs.declared.fault.StackFault.{StackFault}
use Rattle.osi_stack.specs.declared.fault.StackFault.TheVariants.{Refused}
use Rattle.osi_stack.specs.Causes.{of_transport}
use Rattle.osi_stack.specs.Stream.{Stand, has_ended, step_at, count_of}
use Rattle.osi_stack.specs.Going.{stand}

-- the events, where the connection stands after them, the octets that are left, and why these are refused, where they are
pub record Came : Type 0 where
  pub events : List Event
  pub stand : Stand
  pub rest : List ℕ
  pub cause : Option Cause

abbrev pub left_at : Stand → List ℕ → Option Cause → Came
left_at s octets cause = record { events = []; stand = s; rest = octets; cause = cause }

-- what came of a stream whose front gave these events
abbrev pub behind : List Event → Came → Came
behind es x = record { events = es ++ x.events; stand = x.stand; rest = x.rest; cause = x.cause }

-- one TPDU was taken, or is refused; go is how what follows is run
abbrev pub after_step : (Stand → List ℕ → Came) → Stand → (octets after : List ℕ) → Result (Stand × Option Event) Cause → Came
after_step go s octets after (Ok (t, e)) = behind (option_to_list e) (go t after)
after_step go s octets after (Err c) = left_at s octets (Some c)

abbrev pub after_packet : (Stand → List ℕ → Came) → Stand → List ℕ → Result (Option (List ℕ × List ℕ)) TpFault → Came
after_packet go s octets (Ok None) = left_at s octets None
after_packet go s octets (Ok (Some (tpdu, after))) = after_step go s octets after (step_at s tpdu)
after_packet go s octets (Err f) = left_at s octets (Some (of_transport f))

-- at most n TPKTs
abbrev pub run_within : ℕ → Stand → List ℕ → Came
run_within zero s octets = left_at s octets None
run_within (suc n) s octets = if has_ended s.phase then left_at s octets None else after_packet (run_within n) s octets (packet_at octets)

-- the octets from a stand on; each TPKT has some
unfoldable pub run : Stand → List ℕ → Came
run s octets = run_within (length octets) s octets

-- how the octets are refused, if they are: the cause, and how many octets were accepted before
abbrev pub refusal : List ℕ → Came → Option StackFault
refusal octets x = option_map (λ c. Refused c.layer c.code (count_of octets x.rest)) x.cause

-- The octets are refused so: events were added that make, after those so far, all that running them gives.
abbrev pub IsRefusedBehind : Stand → StackFault → List ℕ → List Event → List Event → List Event → Type 0
IsRefusedBehind from f octets so_far before now = IsBytes octets × (more : List Event) × (now ≡ before ++ more)
    × ((run from octets).events ≡ so_far ++ more) × (refusal octets (run from octets) ≡ Some f)

-- What came of it with more octets after: they follow those that were left. What is refused stays so.
abbrev pub further_from : Came → List ℕ → Option Cause → Came
further_from x more None = behind x.events (run x.stand (x.rest ++ more))
further_from x more (Some c) = record { events = x.events; stand = x.stand; rest = x.rest ++ more; cause = Some c }

abbrev pub further : Came → List ℕ → Came
further x more = further_from x more x.cause

-- what a connection keeps of octets that aren't refused: where it stands, and until the end what is left and how many octets
-- stand before that
abbrev pub Keeps : Connection → List ℕ → Came → Type 0
Keeps c octets x = (c.1 ≡ None) × (x.cause ≡ None) × (stand c.0 ≡ x.stand)
    × (has_ended c.0.phase ≡ false → (x.rest ≡ c.0.transport.held) × (c.0.octets ≡ count_of octets x.rest))
