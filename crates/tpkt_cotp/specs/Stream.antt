-- What the TPKTs of a stream give, in order.
use Rattle.std.specs.Prelude.{◌≡◌, ◌≢◌, ℕ, ◌≤◌, Bool, true, false, List, [], ◌∷◌, ◌++◌, length, Option, Some, None, Ok, Err, ◌⊎◌}
use Rattle.std.specs.Option.{option_to_list}
use Rattle.std.specs.List.{flat_map, AllByRecursion}
use Rattle.tpkt_cotp.specs.declared.fault.TpFault.{TpFault}
use Rattle.tpkt_cotp.specs.declared.fault.TpFault.TheVariants as faults
use Rattle.tpkt_cotp.specs.declared.state.State.{State}
use Rattle.tpkt_cotp.specs.declared.tsdus.Tsdu.{Tsdu}
use Rattle.tpkt_cotp.specs.declared.tsdus.Tpkt.{Tpkt}
use Rattle.tpkt_cotp.specs.declared.transport.TransportIn.{TransportIn}
use Rattle.ber_grammar.specs.Octets.{IsBytes}
use Rattle.tpkt_cotp.specs.Packet.{packet, IsTpdu, IsPartial, IsBad}
use Rattle.tpkt_cotp.specs.Tpdu.{tpdu_at}

-- a connection of which nothing has come
abbrev pub start : Bool → State
start dialled = record { dialled = dialled; connected = false; tsdu = [] }

-- from one state the TPDUs give this and lead to another
abbrev pub Runs : State → List (List ℕ) → List Tsdu → State → Type 0
Runs s [] given t = (given ≡ []) × (t ≡ s)
Runs s (tpdu ∷ tpdus) given t = (mid : State) × (first : Option Tsdu) × (others : List Tsdu) × (tpdu_at s tpdu ≡ Ok (mid, first)) × (given ≡ option_to_list first ++ others) × Runs mid tpdus others t

-- from one state the octets are whole TPKTs, which give this and lead to another, and then the rest
pub record Takes (s : State) (octets : List ℕ) (given : List Tsdu) (t : State) (rest : List ℕ) : Type 0 where
  pub tpdus : List (List ℕ)
  pub whole : octets ≡ flat_map packet tpdus ++ rest
  pub each : AllByRecursion IsTpdu tpdus
  pub runs : Runs s tpdus given t

-- the rest begins with no legal TPKT
abbrev pub Stops : State → List ℕ → TpFault → Type 0
Stops s rest f = (IsBad rest f) ⊎ ((tpdu more : List ℕ) × IsTpdu tpdu × (rest ≡ packet tpdu ++ more) × (tpdu_at s tpdu ≡ Err f))

-- ---- within one piece

-- whole TPKTs were taken, and what they give was added
pub record Took (s : State) (octets : List ℕ) (before : List Tsdu) (t : State) (rest : List ℕ) (now : List Tsdu) : Type 0 where
  pub given : List Tsdu
  pub takes : Takes s octets given t rest
  pub grew : now ≡ before ++ given

abbrev pub TookAll : State → List ℕ → List Tsdu → State → List ℕ → List Tsdu → Type 0
TookAll s octets before t rest now = Took s octets before t rest now × IsPartial rest

-- whole TPKTs were taken, up to one that is refused, or as far as there was memory
pub record StopsAt (f : TpFault) (s : State) (octets : List ℕ) (before : List Tsdu) (now : List Tsdu) : Type 0 where
  pub state : State
  pub bad : List ℕ
  pub took : Took s octets before state bad now
  pub stops : f ≢ faults.Memory → Stops state bad f

-- ---- streams

-- The octets are whole TPKTs, which gave this, and the beginning of one more.
pub record StandsAt (dialled : Bool) (t : State) (rest : List ℕ) (octets : List ℕ) (given : List Tsdu) : Type 0 where
  pub fits : IsBytes octets
  pub takes : Takes (start dialled) octets given t rest
  pub partial : IsPartial rest

-- What an object stands for: the octets that it was fed, and what it gave for them. The first word says whether it was
-- made for the side that dialled.
abbrev pub StandsFor : TransportIn → Bool → List ℕ → List Tsdu → Type 0
StandsFor t dialled octets given = (t.refused ≡ None) × StandsAt dialled t.state t.held octets given

-- it answered this refusal
abbrev pub HasRefused : TransportIn → TpFault → Type 0
HasRefused t f = t.refused ≡ Some f

-- A connection is there, and nothing is held and no TSDU open.
abbrev pub IsOpen : TransportIn → Type 0
IsOpen t = (t.held ≡ []) × (t.state.connected ≡ true) × (t.state.tsdu ≡ [])

-- it holds at most n octets of a TPKT, and that many of an open TSDU
abbrev pub Keeps : TransportIn → ℕ → ℕ → Type 0
Keeps t held open_tsdu = (length t.held ≤ held) × (length t.state.tsdu ≤ open_tsdu)

-- After whole TPKTs, which gave this, the stream goes on in no legal way.
pub record IsRefused (dialled : Bool) (octets : List ℕ) (given : List Tsdu) (f : TpFault) : Type 0 where
  pub fits : IsBytes octets
  pub state : State
  pub bad : List ℕ
  pub takes : Takes (start dialled) octets given state bad
  pub stops : Stops state bad f

-- Whole TPKTs at the front of the octets gave this.
abbrev pub Gave : Bool → List ℕ → List Tsdu → Type 0
Gave dialled octets given = (t : State) × (rest : List ℕ) × Takes (start dialled) octets given t rest

-- What feeding a piece does to an object that stood for the octets before it: it stands for those with the piece, and
-- what was given for them was added.
abbrev pub GoesOn : TransportIn → Bool → List ℕ → List Tsdu → List Tsdu → List Tsdu → Type 0
GoesOn t dialled octets given before now = (more : List Tsdu) × (now ≡ before ++ more) × StandsFor t dialled octets (given ++ more)

-- Or it refuses the octets with the piece: what the whole TPKTs before the bad one give was added. Without memory what
-- some of them give was added.
abbrev pub Refuses : TpFault → Bool → List ℕ → List Tsdu → List Tsdu → List Tsdu → Type 0
Refuses f dialled octets given before now = (more : List Tsdu) × (now ≡ before ++ more) × Gave dialled octets (given ++ more) × (f ≢ faults.Memory → IsRefused dialled octets (given ++ more) f)

-- ---- one TPKT at a time

-- After what is held the piece completes a TPKT, which gives this and leads to another state, or all of it is held.
abbrev pub Advances : State → List ℕ → List ℕ → State → List ℕ → Option Tpkt → List ℕ → Type 0
Advances s held piece t now None rest = (rest ≡ []) × (now ≡ held ++ piece) × (t ≡ s) × IsPartial now
Advances s held piece t now (Some taken) rest = (tpdu front : List ℕ) × IsTpdu tpdu × (piece ≡ front ++ rest) × (packet tpdu ≡ held ++ front) × (taken.octets ≡ length (packet tpdu)) × (tpdu_at s tpdu ≡ Ok (t, taken.tsdu)) × (now ≡ [])

-- it can't, as no legal TPKT stands there, or when out of memory
abbrev pub FailsAt : TpFault → State → List ℕ → Type 0
FailsAt f s input = f ≢ faults.Memory → Stops s input f

-- what a TPKT that was completed gave, if one was
abbrev pub gift : Option Tpkt → Option Tsdu
gift None = None
gift (Some taken) = taken.tsdu

-- it refused nothing yet, and less than a TPKT is held
pub record IsReady (t : TransportIn) : Type 0 where
  pub fine : t.refused ≡ None
  pub fits : IsBytes t.held
  pub partial : IsPartial t.held

-- The object took octets of the piece up to the end of a TPKT, or all, and is ready for what follows.
abbrev pub StepsFrom : TransportIn → TransportIn → List ℕ → Option Tpkt → List ℕ → Type 0
StepsFrom t u piece taken rest = Advances t.state t.held piece u.state u.held taken rest × IsReady u

abbrev pub StepFails : TpFault → TransportIn → List ℕ → Type 0
StepFails f t piece = FailsAt f t.state (t.held ++ piece)

-- the octets of the piece that were taken, and what the object stands for with them
pub record StepsOn (u : TransportIn) (dialled : Bool) (octets : List ℕ) (so_far : List Tsdu) (piece : List ℕ) (taken : Option Tpkt) (rest : List ℕ) : Type 0 where
  pub front : List ℕ
  pub cut : piece ≡ front ++ rest
  pub stands : StandsFor u dialled (octets ++ front) (so_far ++ option_to_list (gift taken))
