-- What a TPDU of class 0 does to a connection (ISO 8073, "Structure and encoding of TPDUs").
use Rattle.std.specs.Prelude.{◌≡◌, ◌≢◌, ℕ, ◌+◌, ◌*◌, ◌<◌, ◌≤◌, Bool, true, false, List, [], ◌∷◌, ◌++◌, length, Option, Some, None, Result, Ok, Err, MatchResult, nat_lt, ◌⊎◌, ◌==◌, if◌then◌else◌}
use Rattle.std.specs.List.{flat_map, AllByRecursion}
use Rattle.tpkt_cotp.specs.declared.codes.TheConstants.{CR, CC, DR, DT, ER, END_OF_TSDU}
use Rattle.tpkt_cotp.specs.declared.fault.TpFault.{TpFault}
use Rattle.tpkt_cotp.specs.declared.fault.TpFault.TheVariants as faults
use Rattle.tpkt_cotp.specs.declared.state.State.{State}
use Rattle.tpkt_cotp.specs.declared.tsdus.Cr.{Cr}
use Rattle.tpkt_cotp.specs.declared.tsdus.Tsdu.{Tsdu}
use Rattle.tpkt_cotp.specs.declared.tsdus.Tsdu.TheVariants.{Connect, Data, Disconnect}
use Rattle.ber_grammar.specs.Reader.{◌>>=◌}
use Rattle.tpkt_cotp.specs.Failing.{Fails}
use Rattle.tpkt_cotp.specs.Parameters.{Parameter, spelled, IsAllowed, said, parameters_of}

-- the code of the TPDU that makes the connection: on a dialled one a CC, else a CR
abbrev pub awaited : Bool → ℕ
awaited dialled = if dialled then CC else CR

-- ---- the grammar

-- LI counts the octets of the header after it, the code among them.
abbrev pub HasHeader : ℕ → List ℕ → Type 0
HasHeader li rest = (1 ≤ li) × (li ≤ 1 + length rest)

-- What follows the code of a CR or a CC: DST-REF, SRC-REF, the class and the parameters. LI counts them all, so no data
-- follow. The upper four bits of the class octet are 0, the lower four are disregarded.
pub record IsConnection (li : ℕ) (rest : List ℕ) (cr : Cr) : Type 0 where
  pub dst_high : ℕ
  pub dst_low : ℕ
  pub src_high : ℕ
  pub src_low : ℕ
  pub class : ℕ
  pub parameters : List Parameter
  pub whole : rest ≡ dst_high ∷ dst_low ∷ src_high ∷ src_low ∷ class ∷ flat_map spelled parameters
  pub header : li ≡ 6 + length (flat_map spelled parameters)
  pub class_zero : class < 16
  pub each : AllByRecursion IsAllowed parameters
  pub says : cr ≡ said (src_high * 256 + src_low) parameters

-- A TPDU takes a connection from one state to another and may give something: the awaited CR or CC makes it, a DT adds
-- to the open TSDU and with its end bit gives it, a DR and an ER say that it ends.
abbrev pub IsTaken : State → List ℕ → State → Option Tsdu → Type 0
IsTaken s tpdu t (Some (Connect cr)) = (s.connected ≡ false) × (li : ℕ) × (rest : List ℕ) × (tpdu ≡ li ∷ awaited s.dialled ∷ rest) × IsConnection li rest cr × (t ≡ record { dialled = s.dialled; connected = true; tsdu = s.tsdu })
IsTaken s tpdu t (Some (Data octets)) = (s.connected ≡ true) × (nr : ℕ) × (more : List ℕ) × (tpdu ≡ 2 ∷ DT ∷ nr ∷ more) × (END_OF_TSDU ≤ nr) × (octets ≡ s.tsdu ++ more) × (length octets ≤ 70000) × (t ≡ record { dialled = s.dialled; connected = true; tsdu = [] })
IsTaken s tpdu t (Some Disconnect) = (li code : ℕ) × (rest : List ℕ) × (tpdu ≡ li ∷ code ∷ rest) × HasHeader li rest × ((code ≡ DR) ⊎ (code ≡ ER)) × (t ≡ s)
IsTaken s tpdu t None = (s.connected ≡ true) × (nr : ℕ) × (more : List ℕ) × (tpdu ≡ 2 ∷ DT ∷ nr ∷ more) × (nr < END_OF_TSDU) × (length (s.tsdu ++ more) ≤ 70000) × (t ≡ record { dialled = s.dialled; connected = true; tsdu = s.tsdu ++ more })

-- What follows the code of a CR or a CC is refused: its header ends before the class; or it asks for another class,
-- whatever follows the header; or data follow it; or its variable part is no row of parameters.
abbrev pub IsMalformed : ℕ → List ℕ → TpFault → Type 0
IsMalformed li (a ∷ b ∷ c ∷ d ∷ class ∷ more) f = ((f ≡ faults.Tpdu) × (li < 6))
    ⊎ ((f ≡ faults.Class) × (6 ≤ li) × (16 ≤ class))
    ⊎ ((f ≡ faults.Tpdu) × (6 ≤ li) × (class < 16) × (li ≢ 6 + length more))
    ⊎ ((f ≡ faults.Tpdu) × (li ≡ 6 + length more) × (class < 16) × ((ps : List Parameter) → AllByRecursion IsAllowed ps → more ≢ flat_map spelled ps))
IsMalformed li rest f = f ≡ faults.Tpdu

abbrev pub IsKnown : ℕ → Type 0
IsKnown code = (code ≡ DT) ⊎ (code ≡ CR) ⊎ (code ≡ CC) ⊎ (code ≡ DR) ⊎ (code ≡ ER)

-- A DT comes only on a connection; a CR or a CC only before it, and only the one that is awaited.
abbrev pub IsOutOfTurn : State → ℕ → Type 0
IsOutOfTurn s code = ((code ≡ DT) × (s.connected ≡ false)) ⊎ ((code ≡ CR) ⊎ (code ≡ CC)) × ((s.connected ≡ true) ⊎ (code ≢ awaited s.dialled))

-- a TPDU whose header is there is refused for its code, or for what follows it
abbrev pub IsCodeRefused : State → ℕ → ℕ → List ℕ → TpFault → Type 0
IsCodeRefused s li code rest f = ((f ≡ faults.Tpdu) × ¬ IsKnown code)
    ⊎ ((f ≡ faults.Sequence) × IsOutOfTurn s code)
    ⊎ ((s.connected ≡ false) × (code ≡ awaited s.dialled) × IsMalformed li rest f)
    ⊎ ((f ≡ faults.Tpdu) × (s.connected ≡ true) × (code ≡ DT) × (li ≢ 2))
    ⊎ ((f ≡ faults.TsduLimit) × (s.connected ≡ true) × (code ≡ DT) × (li ≡ 2) × (nr : ℕ) × (more : List ℕ) × (rest ≡ nr ∷ more) × (70000 < length s.tsdu + length more))

-- A TPDU is refused: it has no whole header, or else for its code or what follows it.
abbrev pub IsRefusedTpdu : State → List ℕ → TpFault → Type 0
IsRefusedTpdu s (li ∷ code ∷ rest) f = ((f ≡ faults.Tpdu) × ¬ HasHeader li rest) ⊎ (HasHeader li rest × IsCodeRefused s li code rest f)
IsRefusedTpdu s tpdu f = f ≡ faults.Tpdu

-- ---- reading

abbrev pub connection_at : ℕ → List ℕ → Result Cr TpFault
connection_at li (a ∷ b ∷ c ∷ d ∷ class ∷ more) =
    if nat_lt li 6 then Err faults.Tpdu
    else if nat_lt class 16
    then (if li == 6 + length more then parameters_of (record { src = c * 256 + d; size = None; calling = None; called = None }) more else Err faults.Tpdu)
    else Err faults.Class
connection_at li [] = Err faults.Tpdu
connection_at li (a ∷ []) = Err faults.Tpdu
connection_at li (a ∷ b ∷ []) = Err faults.Tpdu
connection_at li (a ∷ b ∷ c ∷ []) = Err faults.Tpdu
connection_at li (a ∷ b ∷ c ∷ d ∷ []) = Err faults.Tpdu

-- what the code of the awaited TPDU, or of the other one of CR and CC, leads to
abbrev pub connect_at : State → Bool → ℕ → List ℕ → Result (State × Option Tsdu) TpFault
connect_at s is_awaited li rest =
    if is_awaited
    then (if s.connected then Err faults.Sequence
    else (connection_at li rest >>= λ cr. Ok (record { dialled = s.dialled; connected = true; tsdu = s.tsdu }, Some (Connect cr))))
    else Err faults.Sequence

abbrev pub segment_at : State → List ℕ → Result (State × Option Tsdu) TpFault
segment_at s [] = Err faults.Tpdu
segment_at s (nr ∷ octets) =
    if nat_lt 70000 (length s.tsdu + length octets) then Err faults.TsduLimit
    else if nat_lt nr END_OF_TSDU then Ok (record { dialled = s.dialled; connected = true; tsdu = s.tsdu ++ octets }, None)
    else Ok (record { dialled = s.dialled; connected = true; tsdu = [] }, Some (Data (s.tsdu ++ octets)))

abbrev pub data_at : State → ℕ → List ℕ → Result (State × Option Tsdu) TpFault
data_at s li rest = if s.connected then (if li == 2 then segment_at s rest else Err faults.Tpdu) else Err faults.Sequence

abbrev pub coded_at : State → ℕ → ℕ → List ℕ → Result (State × Option Tsdu) TpFault
coded_at s li code rest =
    if code == DT then data_at s li rest
    else if code == CR then connect_at s (if s.dialled then false else true) li rest
    else if code == CC then connect_at s s.dialled li rest
    else if code == DR then Ok (s, Some Disconnect)
    else if code == ER then Ok (s, Some Disconnect)
    else Err faults.Tpdu

unfoldable pub tpdu_at : State → List ℕ → Result (State × Option Tsdu) TpFault
tpdu_at s [] = Err faults.Tpdu
tpdu_at s (li ∷ []) = Err faults.Tpdu
tpdu_at s (li ∷ code ∷ rest) = if li == 0 then Err faults.Tpdu else if nat_lt (1 + length rest) li then Err faults.Tpdu else coded_at s li code rest

-- What a function returned that takes something to a state is what reading gives, unless memory ran out.
abbrev pub Steps : Result (Option Tsdu) TpFault → State → Result (State × Option Tsdu) TpFault → Type 0
Steps r t read = MatchResult r (λ first. read ≡ Ok (t, first)) (λ f. Fails f read)
