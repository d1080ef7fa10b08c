-- The events of a stream, over the TPDUs of its TPKTs.
use Rattle.std.specs.Prelude.{◌≡◌, ℕ, ◌-◌, ◌^◌, min, Bool, true, false, List, [], ◌∷◌, ◌++◌, length, Option, Some, None, Result, Ok, Err, ◌⊎◌}
use Rattle.std.specs.Option.{option_to_list}
use Rattle.std.specs.List.{flat_map, AllByRecursion}
use Rattle.ber_grammar.specs.Reader.{◌>>=◌, with_fault}
use Rattle.tpkt_cotp.specs.declared.fault.TpFault.{TpFault}
use Rattle.tpkt_cotp.specs.declared.state.State.{State}
use Rattle.tpkt_cotp.specs.declared.tsdus.Tsdu.{Tsdu}
use Rattle.ber_grammar.specs.Octets.{IsBytes}
use Rattle.tpkt_cotp.specs.Packet.{packet, IsTpdu, IsPartial, IsBad}
use Rattle.tpkt_cotp.specs.Tpdu.{tpdu_at}
use Rattle.tpkt_cotp.specs.Stream.{start}
use Rattle.osi_stack.specs.declared.events.Event.{Event}
use Rattle.osi_stack.specs.declared.phase.Phase.{Phase}
use Rattle.osi_stack.specs.declared.phase.Phase.TheVariants.{Idle, Called, Open, Calling, Asking, Joined, Ended}
use Rattle.osi_stack.specs.declared.cause.Cause.{Cause}
use Rattle.osi_stack.specs.Causes.{of_transport}
use Rattle.osi_stack.specs.Machine.{tsdu_at}

-- where a connection stands between two TPKTs
pub record Stand : Type 0 where
  pub transport : State
  pub phase : Phase

-- nothing has come, on the side that was called, and on the side that calls and will propose PDUs of this size
abbrev pub called : Stand
called = record { transport = start false; phase = Idle }

abbrev pub calling : ℕ → Stand
calling size = record { transport = start true; phase = Calling size }

-- what follows is disregarded
abbrev pub has_ended : Phase → Bool
has_ended Idle = false
has_ended (Called exponent) = false
has_ended (Open line acse) = false
has_ended (Calling size) = false
has_ended (Asking exponent size) = false
has_ended (Joined line) = false
has_ended Ended = true

abbrev pub stand_of : State → Phase × Option Event → Stand × Option Event
stand_of t x = (record { transport = t; phase = x.0 }, x.1)

-- what the transport gave, taken by the phase
abbrev pub gifts_at : Phase → Option Tsdu → Result (Phase × Option Event) Cause
gifts_at phase None = Ok (phase, None)
gifts_at phase (Some tsdu) = tsdu_at phase tsdu

abbrev pub given_at : Phase → State × Option Tsdu → Result (Stand × Option Event) Cause
given_at phase (t, given) = gifts_at phase given >>= λ x. Ok (stand_of t x)

-- one TPDU
unfoldable pub step_at : Stand → List ℕ → Result (Stand × Option Event) Cause
step_at s tpdu = with_fault of_transport (tpdu_at s.transport tpdu) >>= λ given. given_at s.phase given

-- from one stand the TPDUs give these events and lead to another; none is taken after the end
abbrev pub Runs : Stand → List (List ℕ) → List Event → Stand → Type 0
Runs s [] events t = (events ≡ []) × (t ≡ s)
Runs s (tpdu ∷ tpdus) events t = (has_ended s.phase ≡ false) × (mid : Stand) × (first : Option Event) × (others : List Event)
    × (step_at s tpdu ≡ Ok (mid, first)) × (events ≡ option_to_list first ++ others) × Runs mid tpdus others t

-- from one stand the octets are whole TPKTs, which give these events and lead to another, and then the rest
pub record Takes (s : Stand) (octets : List ℕ) (events : List Event) (t : Stand) (rest : List ℕ) : Type 0 where
  pub tpdus : List (List ℕ)
  pub whole : octets ≡ flat_map packet tpdus ++ rest
  pub each : AllByRecursion IsTpdu tpdus
  pub runs : Runs s tpdus events t

-- how many octets were accepted, as far as 64 bits can say
abbrev pub count_of : List ℕ → List ℕ → ℕ
count_of octets rest = min (length octets - length rest) (2 ^ 64 - 1)

-- From one stand on the octets are whole TPKTs that came to these events, and the beginning of one more, or, after the
-- end, anything.
pub record StandsAt (from t : Stand) (rest octets : List ℕ) (events : List Event) : Type 0 where
  pub fits : IsBytes octets
  pub takes : Takes from octets events t rest
  pub left : ((has_ended t.phase ≡ false) × IsPartial rest) ⊎ (has_ended t.phase ≡ true)

-- the rest begins with no legal TPKT, or with one that is refused
abbrev pub Stops : Stand → List ℕ → Cause → Type 0
Stops s rest cause = ((f : TpFault) × IsBad rest f × (cause ≡ of_transport f)) ⊎ ((tpdu more : List ℕ) × IsTpdu tpdu × (rest ≡ packet tpdu ++ more) × (step_at s tpdu ≡ Err cause))

-- After whole TPKTs, which came to these events and did not end it, the stream goes on in no legal way; they have so
-- many octets.
pub record IsRefused (from : Stand) (octets : List ℕ) (events : List Event) (cause : Cause) (count : ℕ) : Type 0 where
  pub fits : IsBytes octets
  pub stand : Stand
  pub bad : List ℕ
  pub takes : Takes from octets events stand bad
  pub on : has_ended stand.phase ≡ false
  pub stops : Stops stand bad cause
  pub is_count : count ≡ count_of octets bad
