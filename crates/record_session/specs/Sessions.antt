-- What a reading stands for: the octets so far, and the answers that were written to them.
use Rattle.std.specs.Prelude.{◌≡◌, ◌<◌, ◌^◌, ℕ, Bool, List, [], ◌++◌, Option, None, Some}
use Rattle.std.specs.Io.KnownBytes.{Appends}
use Rattle.record_session.specs.Plays.{Plays}
use Rattle.record_outcome.specs.Moves.{Place, opening, configuring, playing, Move, goes, stops}
use Rattle.record_outcome.specs.Records.{NoNewline, behind, pieces, run}
use Rattle.record_session.specs.declared.stage.Stage.{Stage}
use Rattle.record_session.specs.declared.stage.Stage.TheVariants as stages
use Rattle.record_session.specs.declared.session.Session.{Session}
use Rattle.record_session.specs.declared.reader.Reader.{Reader}
use Rattle.record_outcome.specs.declared.status.Status.{Status}

abbrev pub IsAt : Stage → Place → Type 0
IsAt stages.Opening opening = Unit {0}
IsAt (stages.Configuring before text) (configuring lines octets) = (before ≡ lines) × (text.items ≡ octets)
IsAt (stages.Playing p) (playing c s) = Plays p c s
IsAt _ _ = ⊥

-- how many steps the bay has made
abbrev pub steps_in : Stage → ℕ
steps_in (stages.Playing p) = p.bay.steps
steps_in _ = 0

-- the lines before a configuration are few
abbrev pub IsEarly : Stage → Type 0
IsEarly (stages.Configuring before text) = before < 2 ^ 62
IsEarly _ = Unit {0}

abbrev pub Advances : Option Status → Stage → Move → List ℕ → List ℕ → Type 0
Advances None new (goes place text) before now = IsAt new place × (now ≡ before ++ text)
Advances (Some status) new (stops told text) before now = (status ≡ told) × (now ≡ before ++ text)
Advances _ _ _ _ _ = ⊥

-- before the configuration
abbrev pub OpensOn : Option Status → Stage → Move → Type 0
OpensOn None new move = (place : Place) × IsAt new place × (move ≡ goes place [])
OpensOn (Some status) new move = move ≡ stops status []

-- after it
abbrev pub Settles : Option Status → Stage → Move → Type 0
Settles None new (goes place text) = IsAt new place × (text ≡ [])
Settles (Some status) new (stops told text) = (status ≡ told) × (text ≡ [])
Settles _ _ _ = ⊥

abbrev pub AdvancesOn : Option Status → Stage → Stage → (Place → Move) → List ℕ → List ℕ → Type 0
AdvancesOn status old new move before now = (place : Place) → IsAt old place → Advances status new (move place) before now

-- the octets are whole lines, none of which stops the reading, and this is what was written to them
pub record Reads (session : Session) (octets written : List ℕ) : Type 0 where
  pub place : Place
  pub is_at : IsAt session.stage place
  pub same : (long : Bool) (more : List ℕ) → run long 0 opening (pieces (octets ++ more)) ≡ behind written (run long session.lines place (pieces more))

-- the reading of the octets stops, and this is what was written to them
abbrev pub Stopped : Status → List ℕ → List ℕ → Type 0
Stopped status octets written = (long : Bool) (more : List ℕ) → run long 0 opening (pieces (octets ++ more)) ≡ record { status = status; text = written }

-- the session goes on, or it stops, whatever octets follow
abbrev pub GoesOn : Option Status → Session → List ℕ → List ℕ → Type 0
GoesOn None session octets written = Reads session octets written
GoesOn (Some status) session octets written = Stopped status octets written

-- after the octets so far, something more was written, and the session goes on or stops
pub record MovesTo (stop : Option Status) (new : Session) (octets written before now : List ℕ) : Type 0 where
  pub added : List ℕ
  pub out : now ≡ before ++ added
  pub on : GoesOn stop new octets (written ++ added)

-- some octets more are read
abbrev pub Moves : Option Status → Session → Session → List ℕ → List ℕ → List ℕ → Type 0
Moves stop old new octets before now = (so_far written : List ℕ) → Reads old so_far written → MovesTo stop new (so_far ++ octets) written before now

-- of these octets the whole lines at the front were read, up to one that stops the reading, and this is the rest
pub record LinesRead (stop : Option Status) (rest : List ℕ) (old new : Session) (octets before now : List ℕ) : Type 0 where
  pub done : List ℕ
  pub split : octets ≡ done ++ rest
  pub part : stop ≡ None → NoNewline rest
  pub moves : Moves stop old new done before now

-- the octets are whole lines that were read, and a part of a line that is held back
pub record Fed (reader : Reader) (octets written : List ℕ) : Type 0 where
  pub whole : List ℕ
  pub split : octets ≡ whole ++ reader.held.items
  pub reads : Reads reader.session whole written

abbrev pub FeedsOn : Option Status → Reader → List ℕ → List ℕ → Type 0
FeedsOn None reader octets written = Fed reader octets written
FeedsOn (Some status) reader octets written = Stopped status octets written

-- a piece is fed, and something more was written
pub record FeedsTo (stop : Option Status) (new : Reader) (octets written before now : List ℕ) : Type 0 where
  pub added : List ℕ
  pub out : now ≡ before ++ added
  pub on : FeedsOn stop new octets (written ++ added)

abbrev pub Feeds : Option Status → Reader → Reader → List ℕ → List ℕ → List ℕ → Type 0
Feeds stop old new piece before now = (so_far written : List ℕ) → Fed old so_far written → FeedsTo stop new (so_far ++ piece) written before now

-- a piece is fed, and the sink took the answers
pub record TakesTo (stop : Option Status) (new : Reader) (octets written : List ℕ) (before now : Option (List ℕ)) : Type 0 where
  pub added : List ℕ
  pub taken : Appends before now added
  pub on : FeedsOn stop new octets (written ++ added)

abbrev pub Takes : Option Status → Reader → Reader → List ℕ → Option (List ℕ) → Option (List ℕ) → Type 0
Takes stop old new piece before now = (so_far written : List ℕ) → Fed old so_far written → TakesTo stop new (so_far ++ piece) written before now
